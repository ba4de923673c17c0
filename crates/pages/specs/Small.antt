-- Which records a layout takes (01, 'The register'; 02, request 8).
use Rattle.std.specs.Prelude.{ℕ, suc, zero, ◌^◌, ◌<◌, ◌≡◌}
use Rattle.layouts.specs.Layout.{Layout}
use Rattle.pages.specs.Page.{Record, key, value, run}

-- 02: "a four-byte run number"; a layout without runs takes none
abbrev pub RunFits : Layout → ℕ → Type 0
RunFits zero r = r ≡ 0
RunFits (suc f) r = r < 2 ^ 32

-- 01: "a key (the request number, any 64-bit value, 0 included) and a value (the commit number, any
-- 64-bit value)"
abbrev pub Small : Layout → Record → Type 0
Small f x = (key x < 2 ^ 64) × (value x < 2 ^ 64) × RunFits f (run x)

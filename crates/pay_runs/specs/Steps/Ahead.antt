-- The homes of the next items, worked out together.
use Rattle.std.specs.Prelude.{ℕ, ◌+◌, ◌*◌, ◌≤◌, ◌<◌, ◌≡◌, true, List, length, drop, get_or}
use Rattle.layouts.specs.Layout.{in_use}
use Rattle.pages.specs.Page.{key}
use Rattle.state.specs.declared.State.{State}
use Rattle.state.specs.State.{in_range, homes}
use Rattle.records.specs.Records.{record_in}

-- the key of the item so many places on
abbrev pub key_after : List ℕ → ℕ → ℕ
key_after l k = key (record_in (drop (20 * k) l))

-- what stands in twelve places is so of the next items, as far as there are any
abbrev pub Ahead : (ℕ → ℕ) → (l row : List ℕ) → Type 0
Ahead f l row = (k : ℕ) → k < 12 → 20 * k + 20 ≤ length l → get_or row k 0 ≡ f (key_after l k)

-- the home that an item comes with is its own, if the state has homes
abbrev pub Homed : State → (k home : ℕ) → Type 0
Homed s k home = in_range in_use s ≡ true → home ≡ homes s k

-- Where slots lie and how many there are: one line for each layout, and everything above says a
-- layout.
use mathlib.Core.Path.{◌≡◌, refl}
use Prim.Native.Nat.{ℕ, zero, suc, ◌+◌, ◌*◌, ◌^◌, ◌≤◌, ◌<◌}
use native.Mathlib.Omega.{arith}
use Rattle.layouts.specs.Layout.{Layout, kind_of, slots_of, width_of, slot_at, slots_on}

-- a page in memory has places for all
pub slots_few : (f : Layout) → (1 ≤ slots_of f) × (slots_of f ≤ 12)
slots_few zero = (omega arith, omega arith)
slots_few (suc f) = (omega arith, omega arith)

-- the first slot starts after the head
pub slot_first : (f : Layout) → slot_at f 0 ≡ 16
slot_first zero = omega arith
slot_first (suc f) = omega arith

-- the next one where a slot ends
pub slot_next : (f : Layout) (i : ℕ) → slot_at f i + width_of f ≡ slot_at f (suc i)
slot_next zero i = omega arith
slot_next (suc f) i = omega arith

-- the slots end with the page
pub slot_end : (f : Layout) → slot_at f (slots_of f) ≡ 256
slot_end zero = omega arith
slot_end (suc f) = omega arith

-- and each lies on it
pub slot_fits : (f : Layout) (i : ℕ) → i < slots_of f → slot_at f i + width_of f ≤ 256
slot_fits zero i h = omega arith
slot_fits (suc f) i h = omega arith

-- a slot has room for kind, key and value
pub width_low : (f : Layout) → 20 ≤ width_of f
width_low zero = omega arith
width_low (suc f) = omega arith

-- the numbers of a layout fit their fields
pub width_small : (f : Layout) → width_of f < 2 ^ 16
width_small zero = omega arith
width_small (suc f) = omega arith

pub kind_small : (f : Layout) → kind_of f < 2 ^ 16
kind_small zero = omega arith
kind_small (suc f) = omega arith

-- the slots of some pages are those of one, so many times
pub slots_times : (f : Layout) (n : ℕ) → slots_on f n ≡ slots_of f * n
slots_times zero n = refl
slots_times (suc f) n = refl

-- The layouts of a page (01, 'Bytes of a page'; 02, request 8), by cases, so that each says its own
-- numbers. Ten slots with a run are read and written by the page layer alone: no file has them yet.
use Rattle.std.specs.Prelude.{ℕ, zero, suc, ◌+◌, ◌*◌, Bool, true, false}

-- a layout is a number: 0 has twelve slots, any other has ten
abbrev pub Layout : Type 0
Layout = ℕ

abbrev pub twelve : Layout
twelve = 0

abbrev pub ten : Layout
ten = 1

-- the layout of the files that the register makes and takes
abbrev pub in_use : Layout
in_use = twelve

-- 01: "kind 0x0011"; 02: "page kind 0x0021"
abbrev pub kind_of : Layout → ℕ
kind_of zero = 17
kind_of (suc f) = 33

-- 01: "12 slots"; 02: "ten to a page"
abbrev pub slots_of : Layout → ℕ
slots_of zero = 12
slots_of (suc f) = 10

-- 01: "of 20 bytes"; 02: "Slots become 24 bytes"
abbrev pub width_of : Layout → ℕ
width_of zero = 20
width_of (suc f) = 24

-- 02: "A record gains a four-byte run number after its value"
abbrev pub has_run : Layout → Bool
has_run zero = false
has_run (suc f) = true

-- where a slot starts: after the head of 16 bytes and the slots before it
abbrev pub slot_at : Layout → ℕ → ℕ
slot_at zero i = 16 + 20 * i
slot_at (suc f) i = 16 + 24 * i

-- the slots of n pages
abbrev pub slots_on : Layout → ℕ → ℕ
slots_on zero n = 12 * n
slots_on (suc f) n = 10 * n

-- What the code knows past a gate.
use Rattle.std.specs.Prelude.{ℕ, ◌*◌, ◌≤◌, ◌<◌, ◌≡◌, true, List, length, Ok, Err}
use Rattle.layouts.specs.Layout.{Layout}
use Rattle.homes.specs.Homes.{first_pages}
use Rattle.state.specs.declared.State.{State}
use Rattle.state.specs.State.{in_range}
use Rattle.state.specs.declared.Refusal.{Refusal}
use Rattle.state.specs.Answer.{numbers}
use Rattle.gates.specs.Gates.{Gate, opens, image_gate}

-- what is known past the gate of a call on an area of n bytes
abbrev pub OpenFor : Layout → State → ℕ → Gate → Type 0
OpenFor f s n (Ok u) = (in_range f s ≡ true) × (n ≡ 256 * s.cap)
OpenFor f s n (Err why) = Unit {0}

-- an area that is the image of the state's records
abbrev pub OpenImage : Layout → State → List ℕ → Type 0
OpenImage f s area = (in_range f s ≡ true) × (length area ≡ 256 * s.cap) × (image_gate f s area ≡ opens)

-- a refusal after no more than all pages; its number tells that it is one
abbrev pub Refuses : Refusal → Type 0
Refuses why = ((numbers (Err why)).read ≤ 4096) × ((numbers (Err why)).refusal ≡ 0 → ⊥)

-- what is known past the gate of a check, or of its refusal
abbrev pub Checked : Layout → State → List ℕ → Gate → Type 0
Checked f s area (Ok u) = OpenImage f s area
Checked f s area (Err why) = Refuses why

-- what is known past the entry of a call that is lent a row
abbrev pub EnteredWithRow : Layout → State → (m n : ℕ) → Gate → Type 0
EnteredWithRow f s m n (Ok u) = (in_range f s ≡ true) × (m ≡ 256 * s.cap) × (n ≡ s.cap)
EnteredWithRow f s m n (Err why) = Refuses why

-- what is known past the gate of a merge
abbrev pub OpenWithRow : Layout → State → List ℕ → (n : ℕ) → Gate → Type 0
OpenWithRow f s area n (Ok u) = OpenImage f s area × (n ≡ s.cap)
OpenWithRow f s area n (Err why) = Refuses why

-- what is known past the entry of a growth, before its image is judged
abbrev pub EnteredToGrow : Layout → State → (m n : ℕ) → Gate → Type 0
EnteredToGrow f s m n (Ok u) = (in_range f s ≡ true) × (m ≡ 256 * s.cap) × (n ≡ s.cap) × (s.p < s.cap)
EnteredToGrow f s m n (Err why) = Unit {0}

-- what is known past the entry of a shrinking
abbrev pub EnteredToShrink : Layout → State → (m : ℕ) → Gate → Type 0
EnteredToShrink f s m (Ok u) = (in_range f s ≡ true) × (m ≡ 256 * s.cap) × (first_pages s.params < s.p)
EnteredToShrink f s m (Err why) = Unit {0}

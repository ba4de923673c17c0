-- What find, put and remove do to a file that is the image of what it keeps.
use mathlib.Core.Path.{◌≡◌, ◌∙◌}
use mathlib.Core.Option.{none, some}
use mathlib.Core.List.{List, [], ◌∷◌}
use Prim.Native.Nat.{ℕ, suc, ◌-◌, ◌^◌, ◌<◌}
use native.Mathlib.Numerals.{add-one}
use native.Mathlib.Omega.{arith}
use lib.ListN.{length}
use Rattle.layouts.specs.Layout.{slots_of}
use Rattle.pages.specs.Small.{Small}
use Rattle.placing.specs.Image.{Room}
use Rattle.placing.specs.Walks.{find_in}
use Rattle.pages.specs.Page.{Record, key, value}
use Rattle.pages.specs.Area.{area_from}
use Rattle.state.specs.declared.Refusal.{Refusal}
use Rattle.state.specs.declared.Refusal.TheVariants.{Absent, NoRoom}
use Rattle.state.specs.State.{homes}
use Rattle.state.specs.Answer.{again}
use Rattle.register.specs.Files.{Call, find, put, remove, File}
use Rattle.register.proofs.OnImage.{OnImage, Refused as RefusedOn, Accepts as AcceptsOn}
use Rattle.register.proofs.ImageCalls as calls
use Rattle.demands.specs.Histories.{Kept, state_of, without, commit_of, holding}
use Rattle.demands.specs.ReadMoved.{differ}
use Rattle.demands.proofs.Sets.{seek-some, seek-none, without-del, without-length}

-- the pages are the image of what is kept
abbrev pub Stands : Kept → List (List Record) → Type 0
Stands m ps = OnImage m.layout (state_of m) m.held ps

-- the file of these pages
abbrev pub file_of : Kept → List (List Record) → File
file_of m ps = record { layout = m.layout; state = state_of m; area = area_from m.layout 0 ps }

-- a call is refused and leaves the file, with some row
abbrev pub Refused : Kept → List (List Record) → Call → Refusal → (row : List ℕ) → Type 0
Refused m ps c why row = RefusedOn m.layout (state_of m) ps c why row

-- a call is accepted and leaves a file that stands
abbrev pub Accepts : (m new : Kept) → List (List Record) → Call → (v : ℕ) → (row : List ℕ) → Type 0
Accepts m new ps c v row = AcceptsOn m.layout (state_of m) ps c v row (state_of new) new.held (λ qs. differ c ps qs)

module _ {m : Kept} {ps : List (List Record)} (s : Stands m ps) where
  module _ (k : ℕ) (l : k < 2 ^ 64) where
    pub misses : commit_of k m.held ≡ none → find_in key (homes (state_of m)) (slots_of m.layout) k ps ≡ none
    misses e = calls.finds s k l ∙ seek-none k m.held e

    pub find_held : (v : ℕ) → commit_of k m.held ≡ some v → Accepts m m ps (find k) v []
    find_held v e =
        let t = seek-some k m.held e in
        rw t.1 at (calls.find_held s k l t.0 t.2)

    pub find_absent : commit_of k m.held ≡ none → (n : ℕ) × Refused m ps (find k) (Absent n) []
    find_absent e = calls.find_absent s k l (seek-none k m.held e)

    pub remove_absent : commit_of k m.held ≡ none → (n : ℕ) × Refused m ps (remove k) (Absent n) []
    remove_absent e = calls.remove_absent s k l (seek-none k m.held e)

    pub remove_held : (v : ℕ) → commit_of k m.held ≡ some v → Accepts m (holding m (without k m.held)) ps (remove k) 0 []
    remove_held v e =
        let n : suc (length (without k m.held)) ≡ length m.held = without-length k s.set e in
        let t = seek-some k m.held e in
        let less : length m.held - 1 ≡ length (without k m.held) = omega arith in
        rw (less, ← without-del k m.held s.set.once) at (calls.remove_held s k l t.0 t.2)

  module _ (x : Record) (l : key x < 2 ^ 64) where
    pub put_held : (w : ℕ) → commit_of (key x) m.held ≡ some w → (n : ℕ) × Refused m ps (put x) (again (value x) w n) []
    put_held w e =
        let t = seek-some (key x) m.held e in
        rw t.1 at (calls.put_held s x l t.0 t.2)

    module _ (e : commit_of (key x) m.held ≡ none) where
      pub put_full : (Room key (homes (state_of m)) (slots_of m.layout) m.cap (x ∷ m.held) → ⊥) → (n : ℕ) × Refused m ps (put x) (NoRoom n) []
      put_full f = calls.put_full s x l (seek-none (key x) m.held e) f

      pub put_new : Small m.layout x → Room key (homes (state_of m)) (slots_of m.layout) m.cap (x ∷ m.held) → Accepts m (holding m (x ∷ m.held)) ps (put x) 0 []
      put_new u r = rw add-one at (calls.put_new s x l (seek-none (key x) m.held e) u r)

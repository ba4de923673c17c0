-- What the gates of a call tell, as causes: a number out of range, an area or a row of another
-- length, a broken page, no image.
use mathlib.Core.Path.{◌≡◌, refl, sym, ◌∙◌}
use mathlib.Core.Bool.{Bool, true, false, cond, ◌&&◌, false≢true}
use mathlib.Core.Option.{Option, none, some}
use mathlib.Core.List.{List, [], ◌∷◌}
use Prim.Native.Nat.{ℕ, zero, suc, ◌+◌, ◌*◌, ◌≤◌, ◌<◌}
use native.Mathlib.Decide.{ℕ_discrete}
use native.Mathlib.Omega.{arith}
use lib.Dec.{eqb}
use lib.ListN.{length}
use Rattle.std.proofs.Common.{Err}
use Rattle.numbers.specs.Little.{Bytes}
use Rattle.layouts.specs.Layout.{Layout}
use Rattle.homes.specs.Homes.{first_pages}
use Rattle.placing.specs.Image.{cat}
use Rattle.placing.proofs.Seek.{clash}
use Rattle.pages.specs.Page.{Record, read_page}
use Rattle.pages.specs.Area.{part_at, pages_from, held_from}
use Rattle.survey.specs.Survey.{lowest_broken, is_image, on_broken, surveyed, whole as whole_of}
use Rattle.state.specs.declared.State.{State}
use Rattle.state.specs.declared.Refusal.{Refusal}
use Rattle.state.specs.declared.Refusal.TheVariants.{OutOfRange, WrongArea, WrongRow, AtCap, AtStart, Broken, NotImage}
use Rattle.state.specs.State.{in_range, homes}
use Rattle.state.specs.Promises.{Ranged}
use Rattle.state.proofs.Ranges.{ranged, in_range_lem}
use Rattle.gates.specs.Gates.{Gate, opens, gate_of, image_of, image_gate, grow_gate, shrink_gate}
use Rattle.register.specs.OneImage.{ImageOfR}
use Rattle.register.specs.Files.{File}
use Rattle.gates.proofs.Gating.{range_shut, area_shut, gate_open, row_shut, cap_shut, pages_decide, start_shut, pages_decide_shrink}
use Rattle.gates.proofs.Judging.{open_good, good_open}
use Rattle.register.proofs.CheckImage.{good_image, image_good}
use Rattle.demands.specs.Refusals.{RightArea, SomeBroken, LowestBroken}

-- what every call that has a gate finds first
pub data Enters (form : Layout) (s : State) (area : List ℕ) : Type 0 where
  out : (Ranged form s → ⊥) → gate_of form s (length area) ≡ Err OutOfRange → Enters form s area
  other : Ranged form s → (RightArea s area → ⊥) → gate_of form s (length area) ≡ Err WrongArea → Enters form s area
  entered : Ranged form s → RightArea s area → gate_of form s (length area) ≡ opens → Enters form s area

pub enter : (form : Layout) (s : State) (area : List ℕ) → Enters form s area
enter form s area = go (in_range form s) refl (ℕ_discrete (length area) (256 * s.cap))
  where
    go : (u : Bool) → in_range form s ≡ u → Dec (length area ≡ 256 * s.cap) → Enters form s area
    go false e d = out (λ r. false≢true (sym e ∙ in_range_lem form s r)) (sym (range_shut form s (length area) e))
    go true e (no f) = other (ranged form s e) f (sym (area_shut form s (length area) e f))
    go true e (yes l) = entered (ranged form s e) l (sym (gate_open form s (length area) e l))

-- what the search for the lowest broken one of n pages from page a on tells
module _ (form : Layout) (h : ℕ → ℕ) (area : List ℕ) where
  abbrev Breaks : ℕ → Type 0
  Breaks a = read_page form h a (part_at area a) ≡ none

  -- none is broken from page a up to the one before b
  abbrev Clear : (a b : ℕ) → Type 0
  Clear a b = (c : ℕ) → a ≤ c → c < b → Breaks c → ⊥

  abbrev Looked : (n a : ℕ) → Option ℕ → Type 0
  Looked n a none = Clear a (a + n)
  Looked n a (some b) = (a ≤ b) × (b < a + n) × Breaks b × Clear a b

  clear_more : (a b : ℕ) (p : List Record) → read_page form h a (part_at area a) ≡ some p → Clear (suc a) b → Clear a b
  clear_more a b p q on c l u k = go (ℕ_discrete a c)
    where
      go : Dec (a ≡ c) → ⊥
      go (yes t) = clash {x = p} (sym k ∙ rw (← t) q)
      go (no t) = on c (omega arith) u k

  looked : (n a : ℕ) → Looked n a (lowest_broken a (pages_from form h area n a))
  looked zero a = λ c l u k. omega arith
  looked (suc n) a = go (read_page form h a (part_at area a)) refl (looked n (suc a))
    where
      on_looked : (p : List Record) → read_page form h a (part_at area a) ≡ some p → (o : Option ℕ) → Looked n (suc a) o → Looked (suc n) a o
      on_looked p q none w = let e : suc a + n ≡ a + suc n = omega arith in clear_more a (a + suc n) p q (rw e at w)
      on_looked p q (some b) w = (omega arith, omega arith, w.2, clear_more a b p q w.3)

      go : (o : Option (List Record)) → read_page form h a (part_at area a) ≡ o → Looked n (suc a) (lowest_broken (suc a) (pages_from form h area n (suc a)))
          → Looked (suc n) a (lowest_broken a (o ∷ pages_from form h area n (suc a)))
      go none q w = (omega arith, omega arith, q, λ c l u k. omega arith)
      go (some p) q w = on_looked p q (lowest_broken (suc a) (pages_from form h area n (suc a))) w

-- what check, grow and shrink find of the pages of a file that they enter
pub data Pages (f : File) : Type 0 where
  sick : (a : ℕ) → LowestBroken f a → (ImageOfR f.layout f.state f.area → ⊥) → image_gate f.layout f.state f.area ≡ Err (Broken a (suc a)) → Pages f
  strange : (SomeBroken f → ⊥) → (ImageOfR f.layout f.state f.area → ⊥) → image_gate f.layout f.state f.area ≡ Err (NotImage f.state.cap) → Pages f
  whole : (SomeBroken f → ⊥) → ImageOfR f.layout f.state f.area → image_gate f.layout f.state f.area ≡ opens → Pages f

module _ (f : File) (b : Bytes f.area) (r : Ranged f.layout f.state) (l : RightArea f.state f.area) where
  abbrev s : State
  s = f.state

  abbrev area : List ℕ
  area = f.area

  -- an image opens the gate, and nothing else does
  shut_image : (why : Refusal) → image_gate f.layout s area ≡ Err why → ImageOfR f.layout s area → ⊥
  shut_image why e w =
      let q : ◌≡◌ {A = Gate} (Err why) opens = sym e ∙ good_open f.layout s area (image_good f.layout s area b l w) in
      let z : ◌≡◌ {A = ℕ} 0 1 = cc in
      omega arith

  open_image : image_gate f.layout s area ≡ opens → ImageOfR f.layout s area
  open_image e = good_image f.layout s area b l (open_good f.layout s area e)

  -- with none broken, the test of the image decides
  none_sick : (u : Bool) → image_gate f.layout s area ≡ cond u opens (Err (NotImage s.cap)) → (SomeBroken f → ⊥) → Pages f
  none_sick true e n = whole n (open_image e) e
  none_sick false e n = strange n (shut_image (NotImage s.cap) e) e

  pub judge : Pages f
  unfolding image_gate surveyed
  judge = go (lowest_broken 0 (pages_from f.layout (homes s) area s.cap 0)) refl (looked f.layout (homes s) area s.cap 0)
    where
      held : List (List Record)
      held = held_from f.layout area s.cap 0

      go : (o : Option ℕ) → image_gate f.layout s area ≡ image_of s (on_broken o (whole_of (is_image f.layout (homes s) held) (length (cat held [])))) → Looked f.layout (homes s) area s.cap 0 o → Pages f
      go none e w = none_sick (is_image f.layout (homes s) held && eqb (length (cat held [])) s.r) e (λ v. w v.0 (omega arith) (omega (arith, v.1.0)) v.1.1)
      go (some a) e w = sick a (record { broken = (omega arith, w.2); lowest = λ c u k. w.3 c (omega arith) u k.1 }) (shut_image (Broken a (suc a)) e) e

-- what a growth finds of its row and of P
pub data Rows (f : File) (row : List ℕ) : Type 0 where
  other_row : (length row ≡ f.state.cap → ⊥) → grow_gate f.layout f.state f.area (length row) ≡ Err WrongRow → Rows f row
  at_cap : length row ≡ f.state.cap → f.state.p ≡ f.state.cap → grow_gate f.layout f.state f.area (length row) ≡ Err AtCap → Rows f row
  below : length row ≡ f.state.cap → (f.state.p ≡ f.state.cap → ⊥) → grow_gate f.layout f.state f.area (length row) ≡ image_gate f.layout f.state f.area → Rows f row

pub try_row : (f : File) (row : List ℕ) → gate_of f.layout f.state (length f.area) ≡ opens → Rows f row
try_row f row e = go (ℕ_discrete (length row) s.cap) (ℕ_discrete s.p s.cap)
  where
    s : State
    s = f.state

    go : Dec (length row ≡ s.cap) → Dec (s.p ≡ s.cap) → Rows f row
    go (no d) k = other_row d (sym (row_shut f.layout s f.area (length row) opens (sym e) refl d))
    go (yes d) (yes k) = at_cap d k (sym (cap_shut f.layout s f.area (length row) opens (sym e) refl d k))
    go (yes d) (no k) = below d k (sym (pages_decide f.layout s f.area (length row) opens (sym e) refl (image_gate f.layout s f.area) refl d k))

-- what a shrinking finds of P
pub data Starts (f : File) : Type 0 where
  at_start : f.state.p ≡ first_pages f.state.params → shrink_gate f.layout f.state f.area ≡ Err AtStart → Starts f
  above : (f.state.p ≡ first_pages f.state.params → ⊥) → shrink_gate f.layout f.state f.area ≡ image_gate f.layout f.state f.area → Starts f

pub try_start : (f : File) → gate_of f.layout f.state (length f.area) ≡ opens → Starts f
try_start f e = go (ℕ_discrete s.p (first_pages s.params))
  where
    s : State
    s = f.state

    go : Dec (s.p ≡ first_pages s.params) → Starts f
    go (yes k) = at_start k (sym (start_shut f.layout s f.area opens (sym e) refl k))
    go (no k) = above k (sym (pages_decide_shrink f.layout s f.area opens (sym e) refl (image_gate f.layout s f.area) refl k))

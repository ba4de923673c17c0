-- The gate of the pages: what a survey tells decides.
use mathlib.Core.Path.{◌≡◌, refl, sym, ◌∙◌}
use mathlib.Core.Bool.{Bool, true, false, cond, ◌&&◌}
use mathlib.Core.Option.{Option, none, some}
use mathlib.Core.List.{List, [], ◌∷◌}
use Prim.Native.Nat.{ℕ, suc, ◌+◌, ◌*◌, ◌≤◌, ◌<◌}
use native.Mathlib.Omega.{arith}
use lib.Dec.{eqb}
use lib.ListN.{length}
use Rattle.std.proofs.Common.{Ok, Err}
use borrow.Author.Tests.{eqb-true, eq-eqb}
use Rattle.numbers.specs.Little.{Bytes}
use Rattle.layouts.specs.Layout.{Layout, slots_of}
use Rattle.homes.specs.declared.Shape.{Shape}
use Rattle.homes.specs.Homes.{shape_of, home_in}
use Rattle.numbers.proofs.Records.{and_left, and_right}
use Rattle.placing.specs.Image.{cat, RecordSet, Image}
use Rattle.placing.specs.Rows.{counts}
use Rattle.pages.proofs.Areas.{pages_length, held_length}
use Rattle.pages.specs.Page.{Record, key, home_for}
use Rattle.pages.specs.Area.{pages_from, held_from}
use Rattle.survey.specs.Survey.{Verdict, whole, lowest_broken, is_image, on_broken, surveyed}
use Rattle.survey.specs.Steps.Counts.{Counts}
use Rattle.survey.proofs.ImageTest.{GoodFrom, image_set, image_test, good_pages}
use Rattle.state.specs.declared.State.{State}
use Rattle.state.specs.declared.Refusal.{Refusal}
use Rattle.state.specs.declared.Refusal.TheVariants.{Broken, NotImage}
use Rattle.state.specs.State.{homes}
use Rattle.gates.specs.Gates.{Gate, opens, image_of, image_gate}
use Rattle.gates.specs.Steps.Past.{Refuses}

-- the lowest broken page is one of those looked at
lowest_below : (a b : ℕ) (ps : List (Option (List Record))) → lowest_broken a ps ≡ some b → b < a + length ps
lowest_below a b [] e = absurd (let z : ◌≡◌ {A = ℕ} 0 1 = cc in omega arith)
lowest_below a b (none ∷ ps) e = let q : a ≡ b = cc in omega arith
lowest_below a b (some p ∷ ps) e = omega (arith, lowest_below (suc a) b ps e)

-- so what a survey calls broken is a page of the area
pub sick_below : (form : Layout) (h : ℕ → ℕ) (area : List ℕ) (cap : ℕ) (v : Verdict) (a : ℕ) → v ≡ surveyed form h area cap → v ≡ Err a → a < cap
unfolding surveyed
sick_below form h area cap v a t e = go (lowest_broken 0 (pages_from form h area cap 0)) refl (sym t ∙ e)
  where
    go : (o : Option ℕ) → lowest_broken 0 (pages_from form h area cap 0) ≡ o → on_broken o (whole (is_image form h (held_from form area cap 0)) (length (cat (held_from form area cap 0) []))) ≡ Err a → a < cap
    go none q k = absurd (let z : ◌≡◌ {A = ℕ} 0 1 = cc in omega arith)
    go (some b) q k =
        let w : b ≡ a = cc in
        omega (arith, lowest_below 0 b (pages_from form h area cap 0) q, pages_length form h area cap 0)

-- and what the pages refuse is refused after no more than all of them
pub pages_refuse : (form : Layout) (s : State) (area : List ℕ) → s.cap ≤ 4096 → (why : Refusal) → Err why ≡ image_gate form s area → Refuses why
unfolding image_gate
pages_refuse form s area c why e = go (surveyed form (homes s) area s.cap) refl e
  where
    tests : (u : Bool) → Err why ≡ cond u opens (Err (NotImage s.cap)) → Refuses why
    tests true q = absurd (let z : ◌≡◌ {A = ℕ} 1 0 = cc in omega arith)
    tests false q = let z : why ≡ NotImage s.cap = cc in rw z (c, λ p. omega arith)

    go : (v : Verdict) → v ≡ surveyed form (homes s) area s.cap → Err why ≡ image_of s v → Refuses why
    go (Err a) t q = let z : why ≡ Broken a (suc a) = cc in rw z (omega (arith, sick_below form (homes s) area s.cap (Err a) a t refl), λ p. omega arith)
    go (Ok w) t q = tests (w.image && eqb w.records s.r) q

module _ (s : State) (v : Verdict) where
  module _ (image : Bool) (records : ℕ) (e : v ≡ Ok (whole image records)) where
    -- an image of the right number of records, or not
    pub image_open : (image && eqb records s.r) ≡ true → opens ≡ image_of s v
    image_open u = rw (e, u)

  -- where it is open, no page is broken, and the homes that were to be counted are
  pub open_counted : (h : ℕ → ℕ) (rs : List Record) (n : ℕ) (row : List ℕ) → image_of s v ≡ opens → Counts v h rs n row → row ≡ counts (home_for h) rs n 0
  open_counted h rs n row e k = go v e k
    where
      go : (w : Verdict) → image_of s w ≡ opens → Counts w h rs n row → row ≡ counts (home_for h) rs n 0
      go (Err a) q k = absurd (let z : ◌≡◌ {A = ℕ} 0 1 = cc in omega arith)
      go (Ok w) q k = k

  -- the verdict of a survey by the state's own homes is the gate
  pub gate_told : (form : Layout) (area : List ℕ) (shape : Shape) → shape ≡ shape_of s.params s.p → v ≡ surveyed form (home_in shape) area s.cap
      → (g : Gate) → g ≡ image_of s v → g ≡ image_gate form s area
  unfolding image_gate
  gate_told form area shape f t g e = e ∙ rw (t, f)

-- what an open gate tells of the pages: none is broken, and they are an image of as many records as
-- the state tells
pub record GoodFile (form : Layout) (s : State) (area : List ℕ) : Type 0 where
  pub whole : lowest_broken 0 (pages_from form (homes s) area s.cap 0) ≡ none
  pub image : is_image form (homes s) (held_from form area s.cap 0) ≡ true
  pub count : length (cat (held_from form area s.cap 0) []) ≡ s.r

pub open_good : (form : Layout) (s : State) (area : List ℕ) → image_gate form s area ≡ opens → GoodFile form s area
unfolding image_gate surveyed
open_good form s area e = look (lowest_broken 0 (pages_from form h area s.cap 0)) refl e
  where
    h : ℕ → ℕ
    h = homes s

    held : List (List Record)
    held = held_from form area s.cap 0

    records : ℕ
    records = length (cat held [])

    tests : (u : Bool) → (is_image form h held && eqb records s.r) ≡ u → cond u opens (Err (NotImage s.cap)) ≡ opens → (is_image form h held && eqb records s.r) ≡ true
    tests true q k = q
    tests false q k = absurd (let z : ◌≡◌ {A = ℕ} 0 1 = cc in omega arith)

    look : (o : Option ℕ) → lowest_broken 0 (pages_from form h area s.cap 0) ≡ o → image_of s (on_broken o (whole (is_image form h held) records)) ≡ opens → GoodFile form s area
    look (some a) q k = absurd (let z : ◌≡◌ {A = ℕ} 0 1 = cc in omega arith)
    look none q k =
        let t : (is_image form h held && eqb records s.r) ≡ true = tests (is_image form h held && eqb records s.r) refl k in
        record {
          whole = q;
          image = and_left (is_image form h held) (eqb records s.r) t;
          count = eqb-true records s.r (and_right (is_image form h held) (eqb records s.r) t);
        }

-- and such pages open it
pub good_open : (form : Layout) (s : State) (area : List ℕ) → GoodFile form s area → image_gate form s area ≡ opens
unfolding image_gate surveyed
good_open form s area k = rw (k.whole, k.image, eq-eqb (length (cat (held_from form area s.cap 0) [])) s.r k.count)

module _ (form : Layout) (s : State) (area : List ℕ) (b : Bytes area) (l : length area ≡ 256 * s.cap) (k : GoodFile form s area) where
  good : GoodFrom form (homes s) 0 (held_from form area s.cap 0)
  good = good_pages form (homes s) area b s.cap 0 (omega arith) k.whole

  -- the records on such pages are a set
  pub held_set : RecordSet key (cat (held_from form area s.cap 0) [])
  held_set = image_set form (homes s) (held_from form area s.cap 0) k.image good

  -- and the pages are its image
  pub held_image : Image key (homes s) (slots_of form) s.cap (cat (held_from form area s.cap 0) []) (held_from form area s.cap 0)
  held_image = (image_test form (homes s) (held_from form area s.cap 0) s.cap (held_length form area s.cap 0) good).0 k.image

-- A put on any bytes keeps the parameters, the pages, the lent size and the length of the area, and
-- whether the state is in range.
use mathlib.Core.Path.{◌≡◌, refl, sym, ◌∙◌}
use mathlib.Core.Bool.{Bool, true, false, cond}
use mathlib.Core.Option.{Option, none, some}
use mathlib.Core.List.{List, [], ◌∷◌}
use Prim.Native.Nat.{ℕ, zero, suc, ◌-◌, ◌*◌, ◌≤◌, ◌<◌}
use native.Mathlib.Omega.{arith}
use lib.Dec.{eqb, ltb}
use lib.ListN.{length, take, get_or}
use borrow.Author.Tests.{eqb-true, eqb-false}
use Rattle.std.specs.Prelude.{Ok, Err}
use Rattle.layouts.specs.Layout.{Layout, slots_of, slots_on}
use Rattle.placing.specs.Image.{All}
use Rattle.placing.specs.Lay.{rank_in, ins}
use Rattle.pages.specs.Page.{Record, key, read_page}
use Rattle.pages.specs.Area.{part_at, pages_from}
use Rattle.pages.proofs.Areas.{with_length}
use Rattle.state.specs.declared.State.{State}
use Rattle.state.specs.declared.Refusal.TheVariants.{OutOfRange, WrongArea}
use Rattle.state.specs.State.{in_range, homes, one_more}
use Rattle.state.proofs.Ranges.{ranged, more_range}
use Rattle.walks.specs.declared.Met.TheVariants as met
use Rattle.walks.specs.Walks.{Walks, Pages, Walked, went, stopped, and_page, carry, walk, put_met, put_walk, writes}
use Rattle.gates.specs.Gates.{opens, on_gate, gate_of}
use Rattle.changes.specs.Changes.{refused, settled, put_open}
use Rattle.register.specs.Files.{put, File, left}

-- pages that lie below a size
abbrev Below : ℕ → Pages → Type 0
Below cap = All (λ (w : ℕ × List Record). w.0 < cap)

abbrev Low : ℕ → Walked → Type 0
Low cap (went ws n m) = Below cap ws
Low cap (stopped why) = Unit {0}

and_low : (cap a : ℕ) (p : List Record) (w : Walked) → a < cap → Low cap w → Low cap (and_page a p w)
and_low cap a p (went ws n m) l k = (l, k)
and_low cap a p (stopped why) l k = tt

-- what is carried on from a page lies below the lent size
carry_low : (form : Layout) (h : ℕ → ℕ) (area : List ℕ) (cap more a n m : ℕ) (x : Record) → more ≡ cap - a → Low cap (carry (slots_of form) h a n m x (pages_from form h area more a))
carry_low form h area cap zero a n m x e = tt
carry_low form h area cap (suc more) a n m x e =
    on_page (read_page form h a (part_at area a)) (λ y. carry_low form h area cap more (suc a) (suc n) (suc m) y (omega arith))
  where
    on_page : (o : Option (List Record)) → ((y : Record) → Low cap (carry (slots_of form) h (suc a) (suc n) (suc m) y (pages_from form h area more (suc a))))
        → Low cap (carry (slots_of form) h a n m x (o ∷ pages_from form h area more (suc a)))
    on_page none k = tt
    on_page (some p) k = fits (ltb (length p) (slots_of form))
      where
        q : List Record
        q = ins (rank_in key h) x p

        on : Walked
        on = carry (slots_of form) h (suc a) (suc n) (suc m) (get_or q (slots_of form) x) (pages_from form h area more (suc a))

        fits : (u : Bool) → Low cap (cond u (went ((a, q) ∷ []) (suc n) m) (and_page a (take (slots_of form) q) on))
        fits true = (omega arith, tt)
        fits false = and_low cap a (take (slots_of form) q) on (omega arith) (k (get_or q (slots_of form) x))

-- so does all that a put writes
put_low : (form : Layout) (h : ℕ → ℕ) (area : List ℕ) (cap : ℕ) (x : Record) → Low cap (put_walk form h area cap x)
unfolding put_walk
put_low form h area cap x = on_met (walk form h area cap (key x))
  where
    on_met : (w : Walks) → Low cap (put_met form h area cap x w)
    on_met (Ok (met.Found a i c v n)) = tt
    on_met (Ok (met.Ends a i c n)) = carry_low form h area cap (cap - a) a (n - 1) 0 x refl
    on_met (Ok (met.AtEnd n)) = tt
    on_met (Err why) = tt

-- pages written below the lent size leave as many bytes
writes-length : (form : Layout) (cap : ℕ) (ws : Pages) (area : List ℕ) → Below cap ws → length area ≡ 256 * cap → length (writes form area ws) ≡ length area
writes-length form cap [] area b e = refl
writes-length form cap (w ∷ ws) area b e =
    let k = with_length form area w.0 w.1 (omega (arith, b.0)) in
    writes-length form cap ws _ b.1 (k ∙ e) ∙ k

-- the same parameters, pages and lent size, in range or not as before, and as many bytes
pub record Keeps (form : Layout) (s : State) (area : List ℕ) (t : State) (new : List ℕ) : Type 0 where
  pub params : t.params ≡ s.params
  pub p : t.p ≡ s.p
  pub cap : t.cap ≡ s.cap
  pub range : in_range form t ≡ in_range form s
  pub long : length new ≡ length area

-- where nothing is changed, all is kept
same_keeps : (form : Layout) (s : State) (area : List ℕ) → Keeps form s area s area
same_keeps form s area = record { params = refl; p = refl; cap = refl; range = refl; long = refl }

settled_keeps : (form : Layout) (s : State) (area : List ℕ) → in_range form s ≡ true → length area ≡ 256 * s.cap → (wrong : Bool) → eqb s.r (slots_on form s.cap) ≡ wrong → (w : Walked) → Low s.cap w
    → let o = settled form s area (one_more s) wrong w in Keeps form s area o.done.state o.area
settled_keeps form s area h e wrong q (stopped why) l = same_keeps form s area
settled_keeps form s area h e true q (went ws n m) l = same_keeps form s area
settled_keeps form s area h e false q (went ws n m) l =
    let room : s.r < slots_on form s.cap = below s.r (slots_on form s.cap) (ranged form s h).r_high (eqb-false s.r (slots_on form s.cap) q) in
    record { params = refl; p = refl; cap = refl; range = more_range form s h room ∙ sym h; long = writes-length form s.cap ws area l e }
  where
    below : (a b : ℕ) → a ≤ b → (a ≡ b → ⊥) → a < b
    below a b l n = search arith

pub put_keeps : (f : File) (x : Record) → let g = (left f (put x)).file in Keeps f.layout f.state f.area g.state g.area
unfolding left gate_of
put_keeps f x = go (in_range f.layout f.state) (eqb (length f.area) (256 * f.state.cap)) refl refl
  where
    s : State
    s = f.state

    area : List ℕ
    area = f.area

    form : Layout
    form = f.layout

    go : (u v : Bool) → in_range form s ≡ u → eqb (length area) (256 * s.cap) ≡ v
        → let o = on_gate (cond u (cond v opens (Err WrongArea)) (Err OutOfRange)) (refused s area) (put_open form s area x) in Keeps form s area o.done.state o.area
    go false v r e = same_keeps form s area
    go true false r e = same_keeps form s area
    go true true r e =
        settled_keeps form s area r (eqb-true (length area) (256 * s.cap) e) (eqb s.r (slots_on form s.cap)) refl (put_walk form (homes s) area s.cap x) (put_low form (homes s) area s.cap x)

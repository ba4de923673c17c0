-- A fresh history with one call more, one of a format alone, and how long the area is after one.
use mathlib.Core.Path.{◌≡◌, refl, ap, ◌∙◌, sym}
use mathlib.Core.Bool.{Bool, true, false, cond}
use mathlib.Core.Option.{Option, none, some}
use mathlib.Core.List.{List, [], ◌∷◌, ◌++◌}
use Prim.Native.Nat.{ℕ, ◌*◌}
use native.Mathlib.Omega.{arith}
use lib.Dec.{eqb}
use lib.ListN.{length, replicate}
use borrow.Author.Tests.{eq-eqb, eqb-true}
use Rattle.std.specs.Prelude.{Ok, Err}
use Rattle.homes.specs.declared.Params.{Params}
use Rattle.placing.proofs.Lists.{all_append}
use Rattle.pages.specs.Area.{area_from}
use Rattle.pages.proofs.Areas.{area_length}
use Rattle.state.specs.declared.State.{State}
use Rattle.state.specs.declared.Refusal.TheVariants.{OutOfRange, WrongArea}
use Rattle.state.specs.State.{in_range, fresh}
use Rattle.state.specs.Answer.{accepted}
use Rattle.state.specs.Done.{done}
use Rattle.gates.specs.Gates.{opens, on_gate, gate_of}
use Rattle.changes.specs.Changes.{Outcome, refused}
use Rattle.register.specs.Files.{Call, format, File, of_outcome, left, numbers_of, after}
use Rattle.register.proofs.After.{after-append, after-layout}
use Rattle.demands.specs.Histories.{Fits, refusal, Kept, begun, makes, kept}
use Rattle.demands.specs.Demands.{Fresh}
use Rattle.demands.proofs.Demands.{demands}

-- what such a history keeps
kept_more : (o : Option Kept) (f : File) (cs : List Call) (c : Call)
    → kept o f (cs ++ (c ∷ [])) ≡ cond (eqb (refusal (after f cs) c) 0) (makes (after f cs).layout (kept o f cs) c) (kept o f cs)
unfolding after kept
kept_more o f [] c = refl
kept_more o f (x ∷ cs) c = kept_more (cond (eqb (refusal f x) 0) (makes f.layout o x) o) (left f x).file cs c

-- after a fresh history an accepted call makes one
pub fresh_more : {m new : Kept} {f : File} (c : Call) → Fits f.layout c → refusal f c ≡ 0 → makes f.layout (some m) c ≡ some new → Fresh m f → Fresh new (left f c).file
unfolding after
fresh_more {f} c fits z k w =
    let same : f.layout ≡ w.start.layout = ap (λ (g : File). g.layout) (sym w.leaves) ∙ after-layout w.start w.calls in
    record {
      start = w.start;
      calls = w.calls ++ (c ∷ []);
      fits = all_append (Fits w.start.layout) w.calls (c ∷ []) w.fits (rw same at fits, tt);
      keeps = kept_more none w.start w.calls c ∙ rw (w.leaves, eq-eqb (refusal f c) 0 z, w.keeps) k;
      leaves = after-append w.start w.calls (c ∷ []) ∙ rw w.leaves;
    }

-- an accepted format makes one from any file
pub fresh_format : (f : File) (q : Params) (cap : ℕ) → refusal f (format q cap) ≡ 0 → Fresh (begun f.layout q cap) (left f (format q cap)).file
unfolding after kept
fresh_format f q cap z =
    record { start = f; calls = format q cap ∷ []; fits = (tt, tt); keeps = rw (eq-eqb (refusal f (format q cap)) 0 z); leaves = refl }

-- and was lent as many pages as it asks for
pub format_lent : (f : File) (q : Params) (cap : ℕ) → refusal f (format q cap) ≡ 0 → length f.area ≡ 256 * cap
unfolding left gate_of
format_lent f q cap = go (in_range f.layout (fresh q cap)) (eqb (length f.area) (256 * cap)) refl
  where
    new : Outcome
    new = record { done = done (fresh q cap) (Ok (accepted 0 0 0)); area = area_from f.layout 0 (replicate cap []) }

    go : (u v : Bool) → eqb (length f.area) (256 * cap) ≡ v
        → (numbers_of (of_outcome f.layout (on_gate (cond u (cond v opens (Err WrongArea)) (Err OutOfRange)) (refused f.state f.area) new)).said).refusal ≡ 0
        → length f.area ≡ 256 * cap
    go true true e z = eqb-true (length f.area) (256 * cap) e
    go true false e z = absurd (omega arith)
    go false v e z = absurd (omega arith)

module _ {m : Kept} {f : File} (w : Fresh m f) where
  -- after a fresh history the state tells the lent size
  pub fresh_cap : f.state.cap ≡ m.cap
  fresh_cap = ap (λ (s : State). s.cap) (demands.counted m f w).state

  -- and the area has as many pages
  pub fresh_length : length f.area ≡ 256 * m.cap
  fresh_length =
      let i = (demands.image m f w).image in
      ap length i.bytes ∙ area_length m.layout 0 i.pages ∙ ap (λ (n : ℕ). 256 * n) i.image.arranged.many

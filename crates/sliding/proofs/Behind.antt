-- Entries of which the last all have a home above the others', laid: the others first, and those behind
-- what then stands on the pages from that home on.
use mathlib.Core.Path.{◌≡◌, refl, sym, ap, ◌∙◌}
use mathlib.Core.Bool.{not}
use mathlib.Core.List.{List, ◌∷◌, ◌++◌, map, map-append, append-nil}
use Prim.Native.Nat.{ℕ, zero, suc, ◌+◌, ◌-◌, ◌≤◌, ◌<◌, min}
use native.Mathlib.Omega.{arith}
use native.Mathlib.Decide.{dec_le}
use lib.Dec.{leb, eqb}
use lib.ListN.{length, take, drop, length-map, drop_of_length-le}
use lib.Seq.{take_all, take-length, drop-length, take-append-le, drop-append-le, take-append-add, drop-append-add, length-take-le}
use Rattle.placing.specs.Image.{All}
use Rattle.placing.specs.Lay.{up_to, lay}
use Rattle.placing.proofs.Lists.{all_map, count-le, count-append, up_to-append, up_to_all, up_to_none}
use Rattle.entries.specs.declared.Entry.{Entry}
use Rattle.entries.specs.Steps.Entries.{home}
use Rattle.rebuild.specs.Steps.Rebuild.{slots, record_in, hops, hops_from}
use Rattle.rebuild.proofs.Commuting.{all_drop}
use Rattle.sliding.specs.Steps.Topping.{topped, topped_hops}

-- Of s with t behind it a page takes k; of s alone it takes i, and then j of t.
record Both (k i j : ℕ) (s t : List Entry) : Type 0 where
  pub front : take k (s ++ t) ≡ take i s ++ take j t
  pub rest : drop k (s ++ t) ≡ drop i s ++ drop j t
  pub long : length (take i s) ≡ i

-- more than there are is all
module _ (j : ℕ) (t : List Entry) where
  take_min : take (min j (length t)) t ≡ take j t
  take_min = go (dec_le j (length t))
    where
      go : Dec (j ≤ length t) → take (min j (length t)) t ≡ take j t
      go (yes l) = let e : min j (length t) ≡ j = omega arith in rw e
      go (no l) = let e : min j (length t) ≡ length t = omega arith in rw e (take-length t ∙ sym (take_all j t (omega arith)))

  drop_min : drop (min j (length t)) t ≡ drop j t
  drop_min = go (dec_le j (length t))
    where
      go : Dec (j ≤ length t) → drop (min j (length t)) t ≡ drop j t
      go (yes l) = let e : min j (length t) ≡ j = omega arith in rw e
      go (no l) =
          let e : min j (length t) ≡ length t = omega arith in
          let k : length t ≤ j = omega arith in
          rw e (drop-length t ∙ sym (drop_of_length-le t {i = j} k))

-- where all may lie on the page
both_here : (s t : List Entry) → Both (min slots (length s + length t)) (min slots (length s)) (slots - length s) s t
both_here s t = go (dec_le slots (length s))
  where
    go : Dec (slots ≤ length s) → Both (min slots (length s + length t)) (min slots (length s)) (slots - length s) s t
    go (yes l) =
        let k : min slots (length s + length t) ≡ slots = omega arith in
        let i : min slots (length s) ≡ slots = omega arith in
        let j : slots - length s ≡ 0 = omega arith in
        record {
          front = rw (k, i, j, append-nil (take slots s)) (take-append-le slots s t l);
          rest = rw (k, i, j) (drop-append-le slots s t l);
          long = rw i (length-take-le slots s l);
        }
    go (no l) =
        let k : min slots (length s + length t) ≡ length s + min (slots - length s) (length t) = omega arith in
        let i : min slots (length s) ≡ length s = omega arith in
        record {
          front = rw (k, i, take-length s, take-append-add) (ap (λ (u : List Entry). s ++ u) (take_min (slots - length s) t));
          rest = rw (k, i, drop-length s, drop-append-add) (drop_min (slots - length s) t);
          long = rw i (ap (λ (u : List Entry). length u) (take-length s));
        }

module _ (P : ℕ) where
  pub record LaidBehind (n a : ℕ) (s t : List Entry) : Type 0 where
    pub pages : map (map record_in) (lay home slots n a (s ++ t)) ≡ topped (P - a) (map (map record_in) (lay home slots n a s)) t
    pub hopped : hops_from a (lay home slots n a (s ++ t)) ≡ hops_from a (lay home slots n a s) + topped_hops (P - a) a (map (map record_in) (lay home slots n a s)) t

  pub laid_behind : (n a : ℕ) (s t : List Entry) → All (λ e. home e < P) s → All (λ e. home e ≡ P) t → LaidBehind n a s t
  laid_behind zero a s t l m = record { pages = refl; hopped = omega arith }
  laid_behind (suc n) a s t l m = go (dec_le P a) (λ i j. laid_behind n (suc a) (drop i s) (drop j t) (all_drop (λ e. home e < P) i s l) (all_drop (λ e. home e ≡ P) j t m))
    where
      -- how the page and those after it go on
      turn : (j : ℕ) → Both (min slots (up_to home a (s ++ t))) (min slots (up_to home a s)) j s t → LaidBehind n (suc a) (drop (min slots (up_to home a s)) s) (drop j t)
          → (map (map record_in) (lay home slots (suc n) a (s ++ t))
          ≡ (map record_in (take (min slots (up_to home a s)) s) ++ map record_in (take j t)) ∷ topped (P - suc a) (map (map record_in) (lay home slots n (suc a) (drop (min slots (up_to home a s)) s))) (drop j t))
          × (hops_from a (lay home slots (suc n) a (s ++ t))
          ≡ hops_from a (lay home slots (suc n) a s) + (hops a (take j t) + topped_hops (P - suc a) (suc a) (map (map record_in) (lay home slots n (suc a) (drop (min slots (up_to home a s)) s))) (drop j t)))
      turn j b ih = (
        rw (b.front, b.rest, map-append record_in (take (min slots (up_to home a s)) s) (take j t), ih.pages),
        rw (b.front, b.rest, count-append (λ e. not (eqb e.from a)) (take (min slots (up_to home a s)) s) (take j t), ih.hopped) (omega arith),
      )

      go : Dec (P ≤ a) → ((i j : ℕ) → LaidBehind n (suc a) (drop i s) (drop j t)) → LaidBehind (suc n) a s t
      go (yes q) ih =
          let us : up_to home a s ≡ length s = up_to_all home a s (all_map (λ e. home e < P) (λ e. home e ≤ a) (λ e k. omega arith) s l) in
          let ut : up_to home a t ≡ length t = up_to_all home a t (all_map (λ e. home e ≡ P) (λ e. home e ≤ a) (λ e k. omega arith) t m) in
          let ub : up_to home a (s ++ t) ≡ length s + length t = omega (arith, up_to-append home a s t) in
          let b : Both (min slots (up_to home a (s ++ t))) (min slots (up_to home a s)) (slots - length s) s t = rw (ub, us) (both_here s t) in
          let w = turn (slots - length s) b (ih (min slots (up_to home a s)) (slots - length s)) in
          let z : P - a ≡ 0 = omega arith in
          let y : P - suc a ≡ 0 = omega arith in
          let f : slots - length (map record_in (take (min slots (up_to home a s)) s)) ≡ slots - length s = omega (arith, length-map (take (min slots (up_to home a s)) s) record_in, b.long, us) in
          record { pages = rw (z, f) (rw y at w.0); hopped = rw (z, f) (rw y at w.1) }
      go (no q) ih =
          let ut : up_to home a t ≡ 0 = up_to_none home a t (all_map (λ e. home e ≡ P) (λ e. a < home e) (λ e k. omega arith) t m) in
          let ub : up_to home a (s ++ t) ≡ up_to home a s = omega (arith, up_to-append home a s t) in
          let low : min slots (up_to home a s) ≤ length s = omega (arith, count-le (λ e. leb (home e) a) s) in
          let b : Both (min slots (up_to home a (s ++ t))) (min slots (up_to home a s)) 0 s t = rw ub (record {
            front = take-append-le (min slots (up_to home a s)) s t low ∙ sym (append-nil (take (min slots (up_to home a s)) s));
            rest = drop-append-le (min slots (up_to home a s)) s t low;
            long = length-take-le (min slots (up_to home a s)) s low;
          }) in
          let w = turn 0 b (ih (min slots (up_to home a s)) 0) in
          let z : P - a ≡ suc (P - suc a) = omega arith in
          record { pages = rw z (rw append-nil at w.0); hopped = rw z (omega (arith, w.1)) }

-- Two record sets told the other way round have the same keys, so that both ways have room or neither.
use mathlib.Core.Path.{◌≡◌, refl, sym, ap, ◌∙◌}
use mathlib.Core.Bool.{Bool, true, false, cond}
use mathlib.Core.Option
use mathlib.Core.Option.{Option, none, some}
use mathlib.Core.List.{List, [], ◌∷◌, map, Permᴰ}
use Prim.Native.Nat.{ℕ, ◌+◌}
use lib.Dec.{eqb, leb}
use lib.ListN.{length, length-map}
use Rattle.placing.specs.Image.{All, Distinct, RecordSet, home_of, Room}
use Rattle.placing.specs.Lay.{one, up_to}
use Rattle.placing.specs.Walks.{or_else, seek}
use Rattle.placing.proofs.Perms.{perm-length, perm-up_to}
use Rattle.placing.proofs.Taken.{taken_cong}
use Rattle.placing.proofs.Images.{room_taken}
use Rattle.pages.specs.Page.{Record, key}
use Rattle.two_sets.specs.Union.{union}
use Rattle.two_sets.proofs.Differences.{seek_is}
use Rattle.two_sets.proofs.Union.{union_set, union_at, same_records}

-- the keys of records, as records that are their own keys
abbrev self : ℕ → ℕ
self k = k

seek_keys : (k : ℕ) (s : List Record) → seek self k (map key s) ≡ Option.map key (seek key k s)
seek_keys k [] = refl
seek_keys k (x ∷ s) = go (eqb (key x) k) (seek_keys k s)
  where
    go : (u : Bool) → seek self k (map key s) ≡ Option.map key (seek key k s) → cond u (some (key x)) (seek self k (map key s)) ≡ Option.map key (cond u (some x) (seek key k s))
    go true ih = refl
    go false ih = ih

keys_all : (P : ℕ → Type 0) (s : List Record) → All (λ x. P (key x)) s → All P (map key s)
keys_all P [] h = tt
keys_all P (x ∷ s) h = (h.0, keys_all P s h.1)

keys_once : (s : List Record) → Distinct key s → Distinct self (map key s)
keys_once [] d = tt
keys_once (x ∷ s) d = (keys_all (λ j. j ≡ key x → ⊥) s d.0, keys_once s d.1)

keys_low : (h : ℕ → ℕ) (j : ℕ) (s : List Record) → up_to (home_of key h) j s ≡ up_to h j (map key s)
keys_low h j [] = refl
keys_low h j (x ∷ s) = ap (λ (n : ℕ). one (leb (h (key x)) j) + n) (keys_low h j s)

module _ (h : ℕ → ℕ) (b n : ℕ) (s t : List Record) (f : RecordSet key s) (g : RecordSet key t) where
  -- room is told by the keys alone
  room_keys : ((k : ℕ) → Option.map key (seek key k s) ≡ Option.map key (seek key k t)) → Room key h b n s → Room key h b n t
  room_keys e r =
      let p : Permᴰ (map key s) (map key t) = same_records self (map key s) (map key t) (keys_once s f.once) (keys_once t g.once) (λ k. seek_keys k s ∙ e k ∙ sym (seek_keys k t)) in
      let low : (j : ℕ) → up_to (home_of key h) j s ≡ up_to (home_of key h) j t = λ j. keys_low h j s ∙ perm-up_to h j p ∙ sym (keys_low h j t) in
      let many : length s ≡ length t = sym (length-map s key) ∙ perm-length p ∙ length-map t key in
      (room_taken key h b n t g).1 (sym (taken_cong (home_of key h) b s t low n) ∙ (room_taken key h b n s f).0 r ∙ many)

-- so there is room both ways or neither
pub room_turned : (h : ℕ → ℕ) (b n : ℕ) (xs ys : List Record) → RecordSet key xs → RecordSet key ys → Room key h b n (union key xs ys) → Room key h b n (union key ys xs)
room_turned h b n xs ys f g =
    room_keys h b n (union key xs ys) (union key ys xs) (union_set key xs ys f g) (union_set key ys xs g f)
    (λ k. ap (Option.map key) (union_at key xs ys g.once k) ∙ go k (seek key k xs) (seek key k ys) refl refl ∙ sym (ap (Option.map key) (union_at key ys xs f.once k)))
  where
    go : (k : ℕ) (o p : Option Record) → seek key k xs ≡ o → seek key k ys ≡ p → Option.map key (or_else o p) ≡ Option.map key (or_else p o)
    go k none none d e = refl
    go k none (some y) d e = refl
    go k (some x) none d e = refl
    go k (some x) (some y) d e = ap some (seek_is key k xs x d ∙ sym (seek_is key k ys y e))

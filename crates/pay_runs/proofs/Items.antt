-- The items of a run, one by one: the puts made so far and the replies written, and what is left.
use mathlib.Core.Path.{◌≡◌, refl, sym, ◌∙◌}
use mathlib.Core.List.{List, ◌∷◌, ◌++◌, append_assoc, append-nil}
use Prim.Native.Nat.{ℕ, suc, ◌+◌, ◌-◌, ◌*◌, ◌≤◌, ◌<◌}
use native.Mathlib.Omega.{arith}
use lib.ListN.{length, take, drop}
use lib.Seq.{take_all, drop-drop}
use Rattle.numbers.specs.Fields.{Field, encode}
use Rattle.numbers.proofs.Laws.{written_front}
use Rattle.numbers.proofs.Records.{length-encode}
use Rattle.layouts.specs.Layout.{in_use}
use Rattle.state.specs.declared.State.{State}
use Rattle.pages.specs.Page.{Record}
use Rattle.register.specs.Files.{Call, put, File, file_of, Left, left, after, numbers_of}
use Rattle.records.specs.Records.{record_in, reply_of, bytes_of_all}
use Rattle.records.proofs.Lent.{from, from-drop, placed, placed-written}
use Rattle.pay_runs.specs.PayRun.{puts_in, replies_to}

-- the reply to a call, from what it left
abbrev pub reply_to : Left → List Field
reply_to o = reply_of (numbers_of o.said) o.file.state

-- what the code gives back of an item: the state, the area, and the bytes of its reply
abbrev pub Put : Left → State → (area part : List ℕ) → Type 0
Put o s area part = (s ≡ o.file.state) × ((area ≡ o.file.area) × (part ≡ encode (reply_to o)))

-- a put leaves a file of the layout in use where it was one
file-put : (g : File) (x : Record) (s : State) (area : List ℕ) → g.layout ≡ in_use → s ≡ (left g (put x)).file.state → area ≡ (left g (put x)).file.area → file_of s area ≡ (left g (put x)).file
unfolding left
file-put g x s area e p q = rw (p, q, e)

-- i items are done: what the whole run comes to is what is left behind the replies that stand
pub record Going (f : File) (l : List ℕ) (count : ℕ) (g : File) (room : List ℕ) (i : ℕ) : Type 0 where
  pub high : i ≤ count
  pub within : 20 * count ≤ length l
  pub fits : length room ≡ 28 * count
  pub layout : g.layout ≡ in_use
  pub area_kept : length g.area ≡ length f.area
  pub file : after f (puts_in count l) ≡ after g (puts_in (count - i) (drop (20 * i) l))
  pub replies : bytes_of_all (replies_to f (puts_in count l)) ≡ take (28 * i) room ++ bytes_of_all (replies_to g (puts_in (count - i) (drop (20 * i) l)))

-- before the first item
pub goes_first : (f : File) (l : List ℕ) (count : ℕ) (room : List ℕ) → f.layout ≡ in_use → 20 * count ≤ length l → length room ≡ 28 * count → Going f l count f room 0
goes_first f l count room u w h =
    let z : count - 0 ≡ count = omega arith in record { high = omega arith; within = w; fits = h; layout = u; area_kept = refl; file = rw z; replies = rw z }

module _ {f : File} {l : List ℕ} {count : ℕ} {g : File} {room : List ℕ} {i : ℕ} (w : Going f l count g room i) where
  -- one item more
  module _ (k : i < count) where
    -- what is left begins with its put
    next_put : puts_in (count - i) (drop (20 * i) l) ≡ put (record_in (drop (20 * i) l)) ∷ puts_in (count - (i + 1)) (drop (20 * (i + 1)) l)
    unfolding puts_in
    next_put =
        let left : count - i ≡ suc (count - (i + 1)) = omega arith in
        let next : 20 * i + 20 ≡ 20 * (i + 1) = omega arith in
        rw (left, drop-drop, next)

    -- its reply stands behind those before it
    next_reply : (r : List Field) → length (encode r) ≡ 28 → take (28 * (i + 1)) (placed room i (encode r)) ≡ take (28 * i) room ++ encode r
    next_reply r n =
        let e : 28 * (i + 1) ≡ 28 * i + length (encode r) = omega arith in
        rw (e, placed-written room (encode r) i n) (written_front room (28 * i) (encode r) (omega (arith, w.fits)))

    module _ (s : State) (area part : List ℕ) (h : Put (left g (put (record_in (from l (20 * i))))) s area part) (same : length area ≡ length g.area) (kept : length (placed room i part) ≡ length room) where
      pub goes_on : Going f l count (file_of s area) (placed room i part) (i + 1)
      unfolding after replies_to bytes_of_all
      goes_on =
          let c : Call = put (record_in (drop (20 * i) l)) in
          let p : Put (left g c) s area part = rw (from-drop l (20 * i)) at h in
          let q : file_of s area ≡ (left g c).file = file-put g (record_in (drop (20 * i) l)) s area w.layout p.0 p.1.0 in
          record {
            high = omega arith;
            within = w.within;
            fits = kept ∙ w.fits;
            layout = refl;
            area_kept = same ∙ w.area_kept;
            file = w.file ∙ rw (next_put, q);
            replies = w.replies ∙ rw (next_put, q, p.1.1, next_reply (reply_to (left g c)) (length-encode (reply_to (left g c))), append_assoc);
          }

  -- all items are done
  pub goes_out : count ≤ i → (g.state ≡ (after f (puts_in count l)).state) × ((g.area ≡ (after f (puts_in count l)).area) × (room ≡ bytes_of_all (replies_to f (puts_in count l))))
  unfolding puts_in after replies_to bytes_of_all
  goes_out k =
      let z : count - i ≡ 0 = omega (arith, w.high) in
      let a : after f (puts_in count l) ≡ g = w.file ∙ rw z in
      let r : bytes_of_all (replies_to f (puts_in count l)) ≡ room = w.replies ∙ rw (z, append-nil) (take_all (28 * i) room (omega (arith, w.fits))) in
      (rw a, (rw a, sym r))

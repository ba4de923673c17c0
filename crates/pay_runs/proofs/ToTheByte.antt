-- A run is read from the bytes of its put records, and from no others.
use mathlib.Core.Path.{◌≡◌, refl, sym, ap, ◌∙◌}
use mathlib.Core.Bool.{Bool, true}
use mathlib.Core.List.{List, [], ◌∷◌, ◌++◌}
use Prim.Native.Nat.{ℕ, zero, suc, ◌*◌}
use native.Mathlib.Omega.{arith}
use lib.ListN.{length, take, drop, length-append, take-append-drop}
use lib.Seq.{drop_at}
use borrow.Author.Tests.{eqb-true}
use Rattle.numbers.specs.Little.{Bytes}
use Rattle.numbers.specs.Fields.{encode}
use Rattle.numbers.proofs.Laws.{bytes_drop, number_bound}
use Rattle.numbers.proofs.Records.{length-encode, and_left, and_right}
use Rattle.pages.specs.Page.{Record}
use Rattle.records.specs.declared.Command.TheVariants.{Put}
use Rattle.records.specs.Records.{asks, first_of, is_put, record_in, layout_of}
use Rattle.records.specs.Promises.{Sized}
use Rattle.records.proofs.ToTheByte.{command_or, put_first}
use Rattle.records.proofs.Promises.{record_promises}
use Rattle.pay_runs.specs.PayRun.{items, end_to_end, puts_in}
use Rattle.pay_runs.specs.Promises.{records_of, puts_of, AllSized}

-- the bytes of a put record
abbrev put_bytes : Record → List ℕ
put_bytes x = encode (layout_of (Put x))

-- each takes 20 bytes
records_length : (xs : List Record) → length (records_of xs) ≡ 20 * length xs
unfolding records_of
records_length [] = refl
records_length (x ∷ xs) = rw (length-append, length-encode (layout_of (Put x))) (omega (arith, records_length xs))

-- so there are as many items as records
pub records_items : (xs : List Record) → items (records_of xs) ≡ length xs
records_items xs = omega (arith, records_length xs)

module _ (x : Record) (s : Sized (Put x)) (rest : List ℕ) where
  -- a put's bytes begin with its put
  begins : first_of (put_bytes x ++ rest) ≡ asks (Put x) 20
  begins = record_promises.reads (Put x) (layout_of (Put x)) rest s (s.2, refl)

  is_put_lem : is_put (first_of (put_bytes x ++ rest)) ≡ true
  is_put_lem = rw begins

  -- and its record is read from them
  read_back : record_in (put_bytes x ++ rest) ≡ x
  read_back =
      let e : asks (Put (record_in (put_bytes x ++ rest))) 20 ≡ asks (Put x) 20 = sym (put_first (put_bytes x ++ rest) is_put_lem).0 ∙ begins in
      let p : Put (record_in (put_bytes x ++ rest)) ≡ Put x = ap (command_or (Put x)) e in cc

  -- those behind it are left
  behind : drop 20 (put_bytes x ++ rest) ≡ rest
  behind = drop_at (put_bytes x) rest 20 (length-encode (layout_of (Put x)))

-- the bytes of put records are put records end to end
pub records_end : (xs : List Record) → AllSized xs → end_to_end (length xs) (records_of xs) ≡ true
unfolding end_to_end records_of
records_end [] s = refl
records_end (x ∷ xs) s = rw (is_put_lem x s.0 (records_of xs), behind x s.0 (records_of xs)) (records_end xs s.1)

-- and ask for their puts
pub records_puts : (xs : List Record) → AllSized xs → puts_in (length xs) (records_of xs) ≡ puts_of xs
unfolding puts_in records_of puts_of
records_puts [] s = refl
records_puts (x ∷ xs) s = rw (read_back x s.0 (records_of xs), behind x s.0 (records_of xs), records_puts xs s.1)

-- put records end to end are the bytes of what is read from them
pub only_records : (n : ℕ) (l : List ℕ) → Bytes l → end_to_end n l ≡ true → (xs : List Record) × AllSized xs × (records_of xs ≡ l)
unfolding end_to_end records_of
only_records zero [] b e = ([], tt, refl)
only_records zero (x ∷ l) b e = let z : suc (length l) ≡ 0 = eqb-true (suc (length l)) 0 e in absurd (omega arith)
only_records (suc n) l b e =
    let u : Bool = is_put (first_of l) in
    let p = put_first l (and_left u (end_to_end n (drop 20 l)) e) in
    let (xs, s, q) = only_records n (drop 20 l) (bytes_drop 20 l b) (and_right u (end_to_end n (drop 20 l)) e) in
    let x = record_in l in
    let (w, is, n, t) = record_promises.read_only l (Put x) 20 b p.0 in
    let t : take 20 l ≡ put_bytes x = t ∙ ap encode is.1 in
    (x ∷ xs, ((number_bound 8 l 4 (omega (arith, p.1)) b, number_bound 8 l 12 (omega (arith, p.1)) b, refl), s), rw (← t, q) (take-append-drop 20 l))

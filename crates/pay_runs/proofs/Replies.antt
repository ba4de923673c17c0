-- The replies of a run, each in its place.
use mathlib.Core.Path.{◌≡◌, refl}
use mathlib.Core.List.{List, [], ◌∷◌, ◌++◌, append_assoc}
use Prim.Native.Nat.{◌*◌}
use native.Mathlib.Omega.{arith}
use lib.ListN.{length, take, drop, length-append}
use lib.Seq.{take_at, drop_at}
use Rattle.numbers.specs.Fields.{Field, encode}
use Rattle.numbers.proofs.Records.{length-encode}
use Rattle.register.specs.Files.{Call, File, left, after}
use Rattle.records.specs.Records.{bytes_of_all}
use Rattle.pay_runs.specs.PayRun.{replies_to}
use Rattle.pay_runs.proofs.Items.{reply_to}

-- the replies to calls and then others
replies_append : (f : File) (cs ds : List Call) → replies_to f (cs ++ ds) ≡ replies_to f cs ++ replies_to (after f cs) ds
unfolding replies_to after
replies_append f [] ds = refl
replies_append f (c ∷ cs) ds = rw (replies_append (left f c).file cs ds)

bytes_append : (rs ss : List (List Field)) → bytes_of_all (rs ++ ss) ≡ bytes_of_all rs ++ bytes_of_all ss
unfolding bytes_of_all
bytes_append [] ss = refl
bytes_append (r ∷ rs) ss = rw (bytes_append rs ss, append_assoc)

-- a reply is 28 bytes
replies_length : (f : File) (cs : List Call) → length (bytes_of_all (replies_to f cs)) ≡ 28 * length cs
unfolding bytes_of_all replies_to
replies_length f [] = refl
replies_length f (c ∷ cs) = rw (length-append, length-encode (reply_to (left f c))) (omega (arith, replies_length (left f c).file cs))

-- so each stands in its place
pub in_place : (f : File) (first behind : List Call) (c : Call)
    → take 28 (drop (28 * length first) (bytes_of_all (replies_to f (first ++ (c ∷ behind))))) ≡ encode (reply_to (left (after f first) c))
unfolding bytes_of_all replies_to
in_place f first behind c =
    let r : List Field = reply_to (left (after f first) c) in
    rw (replies_append f first (c ∷ behind), bytes_append, drop_at (bytes_of_all (replies_to f first)) _ (28 * length first) (replies_length f first))
    (take_at (encode r) _ 28 (length-encode r))

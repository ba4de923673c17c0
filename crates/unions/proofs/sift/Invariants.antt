-- `unions::sift` meets its contract. The loop's invariant: the first i records are sifted.
use Prim.Native.Nat.{◌-◌}
use Rattle.sites.specs.Steps.Sites.{look}
use Rattle.unions.proofs.Sifting.{Sifting}
use Rattle.unions.proofs.sift.Given as goal

abbrev pub invariant-loop-i : goal.invariant-loop-i
invariant-loop-i l = Sifting (look l.site l.other) l.page.keys l.page.values l.page.runs l.here l.initial.clash l.page.count l.keys l.values l.runs l.homes l.n l.clash l.i

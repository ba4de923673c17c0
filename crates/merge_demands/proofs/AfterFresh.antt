-- Two files after fresh histories: what their merge comes to, either way round.
use mathlib.Core.Path.{◌≡◌, refl, sym, ap, ◌∙◌}
use mathlib.Core.Logic.{◌↔◌}
use mathlib.Core.Option.{none, some}
use mathlib.Core.List.{List, [], Permᴰ}
use Prim.Native.Nat.{ℕ}
use native.Mathlib.Omega.{arith}
use lib.ListN.{length}
use Rattle.layouts.specs.Layout.{in_use, slots_of}
use Rattle.placing.specs.Image.{All, Room}
use Rattle.placing.proofs.Seek.{clash}
use Rattle.placing.proofs.Perms.{perm-seek}
use Rattle.pages.specs.Page.{key}
use Rattle.pages.specs.Small.{Small}
use Rattle.state.specs.declared.State.{State}
use Rattle.state.specs.State.{homes}
use Rattle.gates.specs.Gates.{opens}
use Rattle.gates.proofs.Gating.{check_pages, lent_open, merge_pages}
use Rattle.register.specs.Files.{File}
use Rattle.demands.specs.Histories as histories
use Rattle.demands.specs.Histories.{Kept, state_of, record_of}
use Rattle.demands.specs.Demands.{Fresh}
use Rattle.demands.proofs.Sets.{record_found}
use Rattle.demands.proofs.Demands.{demands}
use Rattle.sites.specs.Held.{same}
use Rattle.sites.proofs.Same.{same_sides, same-union}
use Rattle.two_sets.specs.Union.{union, first_clash, lowest_clash}
use Rattle.two_sets.proofs.Differences.{same_list}
use Rattle.two_sets.proofs.Union.{union_set, union-perm, union_none}
use Rattle.two_sets.proofs.Clash.{no_clash, clash_turned, clash_none}
use Rattle.two_sets.proofs.Rooms.{room_perm}
use Rattle.merge_demands.specs.MergeDemands.{says, number, left_by, both, RoomForBoth, read_as, TwoFresh, MergesOf}
use Rattle.merge_demands.proofs.Held.{Holds, Stood, stood, holds_kept}
use Rattle.merge_demands.proofs.Decided.{lowest_of, Settles, clashes, crowded, joins, settle}
use Rattle.merge_demands.proofs.AnyFiles.{any_files}
use Rattle.merge_demands.proofs.AsPuts.{joined_fresh}
use Rattle.merge_demands.proofs.Turned.{room_turned}

module _ (a b : Kept) (f g : File) (w : TwoFresh a b f g) where
  first : Stood a f
  first = stood a f w.first

  -- the other is read in its own layout
  second : Stood b (read_as f g)
  second =
      let t = stood b g w.second in
      let e : f.layout ≡ g.layout = first.layout ∙ w.layout ∙ sym t.layout in
      rw e t

  own : Holds f.layout f.state f.area
  own = holds_kept first

  others : Holds f.layout g.state g.area
  others = holds_kept second

  -- they clash where what is kept does
  same_clash : lowest_of f g ≡ lowest_clash key same a.held b.held
  unfolding lowest_clash
  same_clash = ap (first_clash key) (same_list key same first.held second.held own.set.once others.set.once)

  abbrev Fits : Type 0
  Fits = Room key (homes (state_of a)) (slots_of a.layout) a.cap (union key a.held b.held)

  -- and have room where that has
  same_room : RoomForBoth f g ↔ Fits
  same_room =
      let p : Permᴰ (both f g) (union key a.held b.held) = union-perm key first.held second.held own.set others.set in
      (λ r. let t = room_perm key (homes f.state) (slots_of f.layout) p r in rw (first.state, first.layout) at t, λ r. room_perm key (homes f.state) (slots_of f.layout) (mathlib.Core.List.Permᴰ.symm p) (rw (first.state, first.layout) r))

  -- both pass, with a row of the right length
  module _ (row : List ℕ) (d : length row ≡ a.cap) where
    comes : Settles f g row
    comes =
        let e : length row ≡ f.state.cap = d ∙ sym (ap (λ (s : State). s.cap) first.state) in
        settle f g own others row
        (sym (merge_pages f.layout f.state f.area (length row) opens (lent_open f.layout f.state (length f.area) (length row) opens first.enters refl e) refl opens first.passes))
        (sym (check_pages f.layout g.state g.area opens second.enters refl opens second.passes))

    tells_clash : (k : ℕ) → ((number f row g ≡ 13) × ((says f row g).numbers.value ≡ k)) ↔ (lowest_clash key same a.held b.held ≡ some k)
    tells_clash k = go comes
      where
        go : Settles f g row → ((number f row g ≡ 13) × ((says f row g).numbers.value ≡ k)) ↔ (lowest_clash key same a.held b.held ≡ some k)
        go (clashes j n o) = rw (o, number) (λ e. sym same_clash ∙ n ∙ ap some e.1, λ e. (refl, let q : some j ≡ some k = sym n ∙ same_clash ∙ e in cc))
        go (crowded n x o) = rw (o, number) (λ e. absurd (omega (arith, e.0)), λ e. absurd (clash (sym n ∙ same_clash ∙ e)))
        go (joins n x o) = rw (o, number) (λ e. absurd (omega (arith, e.0)), λ e. absurd (clash (sym n ∙ same_clash ∙ e)))

    tells_room : lowest_clash key same a.held b.held ≡ none → ((number f row g ≡ 7) ↔ (Fits → ⊥)) × ((number f row g ≡ 0) ↔ Fits)
    tells_room z = go comes
      where
        go : Settles f g row → ((number f row g ≡ 7) ↔ (Fits → ⊥)) × ((number f row g ≡ 0) ↔ Fits)
        go (clashes j n o) = absurd (clash (sym z ∙ sym same_clash ∙ n))
        go (crowded n x o) = rw (o, number) ((λ e r. x (same_room.1 r), λ q. refl), (λ e. absurd (omega arith), λ r. absurd (x (same_room.1 r))))
        go (joins n x o) = rw (o, number) ((λ e. absurd (omega arith), λ q. absurd (q (same_room.0 x))), (λ e. same_room.0 x, λ r. refl))

  -- what an accepted merge shows, and what it leaves
  module _ (row : List ℕ) (z : number f row g ≡ 0) where
    shows : (lowest_clash key same a.held b.held ≡ none) × Fits
    shows =
        let t = (any_files f row g first.bytes second.bytes).accepted.0 z in
        (sym same_clash ∙ (no_clash key same _ _ own.set.once others.set.once).1 t.7, same_room.0 t.8)

    leaves : Fresh (histories.holding a (union key a.held b.held)) (left_by f row g)
    leaves = joined_fresh a f w.first row g second.bytes z b.held second.held

  -- "Merging an empty file changes no page"
  adds_none : (row : List ℕ) → length row ≡ a.cap → b.held ≡ [] → (number f row g ≡ 0) × (left_by f row g ≡ f)
  adds_none row d e =
      let image = (demands.image a f w.first).image in
      let alone : union key a.held b.held ≡ a.held = rw e (union_none key a.held) in
      let z : number f row g ≡ 0 = (tells_room row d (rw e (clash_none key same a.held first.set.once))).1.1 (rw alone (image.pages, image.image.arranged)) in
      (z, demands.same (histories.holding a (union key a.held b.held)) a (left_by f row g) f (leaves row z) w.first (record { layout = refl; params = refl; cap = refl; p = refl; held = λ k. rw alone }))

  -- in the layout in use both ways hold the same
  same_set : a.layout ≡ in_use → lowest_clash key same a.held b.held ≡ none → (k : ℕ) → record_of k (union key a.held b.held) ≡ record_of k (union key b.held a.held)
  same_set e n k =
      let p : All (Small in_use) a.held = rw e at first.small in
      let q : All (Small in_use) b.held = rw (sym w.layout ∙ e) at second.small in
      let t = same-union a.held b.held p q first.set second.set n in
      rw (record_found k (union key a.held b.held), record_found k (union key b.held a.held)) (perm-seek key k t (union_set key a.held b.held first.set second.set).once)

-- the other way round
turned : {a b : Kept} {f g : File} → TwoFresh a b f g → TwoFresh b a g f
turned w = record { first = w.second; second = w.first; layout = sym w.layout }

pub after_fresh : (a b : Kept) (f g : File) → TwoFresh a b f g → MergesOf a b f g
after_fresh a b f g w =
    record {
      clash = tells_clash a b f g w;
      room = tells_room a b f g w;
      empty = adds_none a b f g w;
      holds = leaves a b f g w;
      same_set = λ row row' e z z'. same_set a b f g w e (shows a b f g w row z).0;
      same_bytes = λ row row' e z z' params p cap.
          demands.same (histories.holding a (union key a.held b.held)) (histories.holding b (union key b.held a.held)) (left_by f row g) (left_by g row' f) (leaves a b f g w row z) (leaves b a g f (turned w) row' z')
          (record { layout = w.layout; params = params; cap = cap; p = p; held = same_set a b f g w e (shows a b f g w row z).0 });
      both_accepted = λ row row' d z params p cap.
          let x = (first a b f g w).set in
          let y = (second a b f g w).set in
          let t = shows a b f g w row z in
          let r = room_turned (homes (state_of a)) (slots_of a.layout) a.cap a.held b.held x y t.1 in
          (tells_room b a g f (turned w) row' d (clash_turned key same same_sides b.held a.held y.once x.once ∙ t.0)).1.1 (rw (← w.layout, ← params, ← p, ← cap) r);
    }

-- What find, put and remove do on a file that is the image of its records.
use mathlib.Core.Path.{◌≡◌, refl, sym, ap, ◌∙◌}
use mathlib.Core.Option.{none, some}
use mathlib.Core.List.Permᴰ
use mathlib.Core.List.{List, [], ◌∷◌}
use Prim.Native.Nat.{ℕ, suc, ◌*◌, ◌^◌, ◌≤◌, ◌<◌}
use native.Mathlib.Decide.{ℕ_discrete}
use native.Mathlib.Omega.{arith}
use lib.ListN.{length, length-append}
use Rattle.std.proofs.Common.{Ok, Err}
use borrow.Author.Tests.{ne_eqb}
use Rattle.layouts.specs.Layout.{Layout, slots_on, slots_of}
use Rattle.pages.specs.Small.{Small}
use Rattle.layouts.proofs.Lying.{slots_times}
use Rattle.placing.specs.Image.{cat, page, RecordSet, home_of, Room}
use Rattle.placing.specs.Lay.{taken}
use Rattle.placing.specs.Rows.{strayed}
use Rattle.placing.specs.Walks.{seek, del, find_in, put_in, remove_in}
use Rattle.placing.proofs.Perms.{perm_all, perm-length}
use Rattle.placing.proofs.Seek.{seek_ne, del_all, del_distinct, del_left}
use Rattle.placing.proofs.Images.{room_taken, find_image}
use Rattle.placing.proofs.Changes.{put_image, put_room, remove_image}
use Rattle.pages.specs.Page.{Record, key, value}
use Rattle.pages.specs.Area.{area_from}
use Rattle.state.specs.declared.State.{State}
use Rattle.state.specs.declared.Refusal.{Refusal}
use Rattle.state.specs.declared.Refusal.TheVariants.{Absent, NoRoom}
use Rattle.state.specs.State.{homes, one_more, one_less}
use Rattle.state.specs.Answer.{Answer, accepted, again}
use Rattle.state.specs.Done.{done}
use Rattle.state.proofs.Ranges.{more_range, less_range}
use Rattle.walks.specs.Walks.{stopped, walk, find_answer, put_walk, remove_walk}
use Rattle.walks.proofs.Clean.{Others}
use Rattle.walks.proofs.Went.{Went}
use Rattle.walks.proofs.FindWalk.{FindGoes, find_clean}
use Rattle.walks.proofs.PutWalk.{Poured, PutGoes, put_clean}
use Rattle.walks.proofs.RemoveWalk.{RemoveGoes, remove_clean}
use Rattle.register.specs.Files.{find, put, remove, leaves, file_in, left}
use Rattle.register.proofs.OnImage.{OnImage, on_clean, on_gate, on_order, home_low, Refused, Accepts}

-- pages of b slots hold no more than b each
cat_few : {R : Type 0} (b : ℕ) (ps : List (List R)) → ((a : ℕ) → length (page ps a) ≤ b) → length (cat ps []) ≤ b * length ps
cat_few b [] h = omega arith
cat_few b (p ∷ ps) h = omega (arith, h 0, length-append p (cat ps []), cat_few b ps (λ a. h (suc a)))

-- so there is room for no more records than there are slots
room_few : {R : Type 0} (key : R → ℕ) (h : ℕ → ℕ) (b : ℕ) {n : ℕ} {s : List R} → Room key h b n s → length s ≤ b * n
room_few key h b w = rw (← w.1.many, ← perm-length w.1.holds) (cat_few b w.0 w.1.slots)

-- whether there is room can be told
pub room_told : (b : ℕ) (h : ℕ → ℕ) (n : ℕ) (rs : List Record) → RecordSet key rs → Dec (Room key h b n rs)
room_told b h n rs f = go (ℕ_discrete (taken (home_of key h) b rs n) (length rs))
  where
    go : Dec (taken (home_of key h) b rs n ≡ length rs) → Dec (Room key h b n rs)
    go (yes e) = yes ((room_taken key h b n rs f).1 e)
    go (no e) = no (λ r. e ((room_taken key h b n rs f).0 r))

module _ {form : Layout} {s : State} {rs : List Record} {ps : List (List Record)} (w : OnImage form s rs ps) where
  abbrev h : ℕ → ℕ
  h = homes s

  abbrev area : List ℕ
  area = area_from form 0 ps

  -- past its gate a find answers what its walk meets
  pub find-leaves : (k : ℕ) (a : Answer) → find_answer (walk form h area s.cap k) ≡ a → left (file_in form s area) (find k) ≡ leaves form (done s a) area []
  unfolding left
  find-leaves k a e = rw (← on_gate w) (ap (λ (x : Answer). leaves form (done s x) area []) e)

  -- a walk that stopped is a refusal
  put-stopped : (x : Record) (why : Refusal) → put_walk form h area s.cap x ≡ stopped why → Refused form s ps (put x) why []
  unfolding left
  put-stopped x why e = rw (← on_gate w, e)

  remove-stopped : (k : ℕ) (why : Refusal) → remove_walk form h area s.cap k ≡ stopped why → Refused form s ps (remove k) why []
  unfolding left
  remove-stopped k why e = rw (← on_gate w, e)

  -- and one that went well writes its pages, where the count is right
  put_went : (x : Record) (qs : List (List Record)) → Went form ps qs (strayed key qs ps) (put_walk form h area s.cap x) → (s.r ≡ slots_on form s.cap → ⊥)
      → OnImage form (one_more s) (x ∷ rs) qs → Accepts form s ps (put x) 0 [] (one_more s) (x ∷ rs) (λ qs. strayed key qs ps)
  unfolding left
  put_went x qs t f i =
      record { read = t.read; moved = strayed key qs ps; pages = qs; left = rw (← on_gate w, t.goes, ne_eqb s.r (slots_on form s.cap) f, t.leaves); stands = i; moves = refl }

  remove_went : (k : ℕ) (qs : List (List Record)) → Went form ps qs (strayed key ps qs) (remove_walk form h area s.cap k) → (s.r ≡ 0 → ⊥)
      → OnImage form (one_less s) (del key k rs) qs → Accepts form s ps (remove k) 0 [] (one_less s) (del key k rs) (λ qs. strayed key ps qs)
  unfolding left
  remove_went k qs t f i =
      record { read = t.read; moved = strayed key ps qs; pages = qs; left = rw (← on_gate w, t.goes, ne_eqb s.r 0 f, t.leaves); stands = i; moves = refl }

  module _ (k : ℕ) (l : k < 2 ^ 64) where
    -- the walk finds what is held
    pub finds : find_in key h (slots_of form) k ps ≡ seek key k rs
    finds = find_image key h (slots_of form) k l w.set w.image

    goes : FindGoes (seek key k rs) (find_answer (walk form h area s.cap k))
    goes = rw finds at (find_clean (on_clean w) (on_order w) k l (home_low w k))

    takes : RemoveGoes form ps (seek key k rs) (remove_in key h (slots_of form) k ps) (remove_walk form h area s.cap k)
    takes = rw finds at (remove_clean form h s.cap k l (on_clean w) (on_order w) (home_low w k))

    -- find answers the value held, or 5
    pub find_held : (x : Record) → seek key k rs ≡ some x → Accepts form s ps (find k) (value x) [] s rs (λ qs. 0)
    find_held x e =
        let t : FindGoes (some x) (find_answer (walk form h area s.cap k)) = rw e at goes in
        record { read = t.0; moved = 0; pages = ps; left = find-leaves k (Ok (accepted (value x) t.0 0)) t.1; stands = w; moves = refl }

    pub find_absent : seek key k rs ≡ none → (n : ℕ) × Refused form s ps (find k) (Absent n) []
    find_absent e =
        let t : FindGoes none (find_answer (walk form h area s.cap k)) = rw e at goes in
        (t.0, find-leaves k (Err (Absent t.0)) t.1)

    -- remove leaves the image without the key, or answers 5
    pub remove_absent : seek key k rs ≡ none → (n : ℕ) × Refused form s ps (remove k) (Absent n) []
    remove_absent e =
        let t : RemoveGoes form ps none (remove_in key h (slots_of form) k ps) (remove_walk form h area s.cap k) = rw e at takes in
        (t.0, remove-stopped k (Absent t.0) t.1)

    pub remove_held : (x : Record) → seek key k rs ≡ some x → Accepts form s ps (remove k) 0 [] (one_less s) (del key k rs) (λ qs. strayed key ps qs)
    remove_held x e =
        let qs : List (List Record) = remove_in key h (slots_of form) k ps in
        let t : RemoveGoes form ps (some x) qs (remove_walk form h area s.cap k) = rw e at takes in
        let n : suc (length (del key k rs)) ≡ length rs = (del_left key k x rs [] e).1 in
        remove_went k qs t (λ z. omega (arith, w.count)) (record {
          range = less_range form s w.range;
          set = record { keys = del_all key (λ y. key y < 2 ^ 64) k rs w.set.keys; once = del_distinct key key k rs w.set.once };
          formed = del_all key (Small form) k rs w.formed;
          count = omega (arith, w.count);
          image = remove_image key h (slots_of form) k l w.set w.image;
        })

  module _ (x : Record) (l : key x < 2 ^ 64) where
    -- a key that is not found is not there
    pub others : find_in key h (slots_of form) (key x) ps ≡ none → Others x ps
    others e =
        perm_all (λ y. key y ≡ key x → ⊥) (Permᴰ.symm w.image.arranged.holds) (seek_ne key (key x) rs (sym (finds (key x) l) ∙ e))

    comes : PutGoes form ps x (seek key (key x) rs) (put_in key h (slots_of form) x ps) (put_walk form h area s.cap x)
    comes = rw (finds (key x) l) at (put_clean form h s.cap x l (on_clean w) (on_order w) (home_low w (key x)) others)

    -- put of a key that is held tells its value
    pub put_held : (y : Record) → seek key (key x) rs ≡ some y → (n : ℕ) × Refused form s ps (put x) (again (value x) (value y) n) []
    put_held y e =
        let t : PutGoes form ps x (some y) (put_in key h (slots_of form) x ps) (put_walk form h area s.cap x) = rw e at comes in
        (t.0, put-stopped x (again (value x) (value y) t.0) t.1)

    module _ (e : seek key (key x) rs ≡ none) where
      with_new : RecordSet key (x ∷ rs)
      with_new = record { keys = (l, w.set.keys); once = (seek_ne key (key x) rs e, w.set.once) }

      abbrev new : List (List Record)
      new = (put_in key h (slots_of form) x ps).0

      ends : Poured form ps new (put_in key h (slots_of form) x ps).1 (strayed key new ps) (put_walk form h area s.cap x)
      ends = rw e at comes

      -- of another, it is refused where there is no room
      pub put_full : (Room key h (slots_of form) s.cap (x ∷ rs) → ⊥) → (n : ℕ) × Refused form s ps (put x) (NoRoom n) []
      put_full f = go (put_in key h (slots_of form) x ps).1 refl ends
        where
          go : (o : List Record) → (put_in key h (slots_of form) x ps).1 ≡ o → Poured form ps new o (strayed key new ps) (put_walk form h area s.cap x)
              → (n : ℕ) × Refused form s ps (put x) (NoRoom n) []
          go [] q t = absurd (f ((put_room key h (slots_of form) x with_new w.image).0 q))
          go (y ∷ o) q t = (t.0, put-stopped x (NoRoom t.0) t.1)

      -- and else leaves the image with the record
      pub put_new : Small form x → Room key h (slots_of form) s.cap (x ∷ rs) → Accepts form s ps (put x) 0 [] (one_more s) (x ∷ rs) (λ qs. strayed key qs ps)
      put_new u r =
          let q : (put_in key h (slots_of form) x ps).1 ≡ [] = (put_room key h (slots_of form) x with_new w.image).1 r in
          let t : Went form ps new (strayed key new ps) (put_walk form h area s.cap x) = rw q at ends in
          let few : suc (length rs) ≤ slots_on form s.cap = rw slots_times (room_few key h (slots_of form) r) in
          put_went x new t (λ z. omega (arith, w.count)) (record {
            range = more_range form s w.range (omega (arith, w.count));
            set = with_new;
            formed = (u, w.formed);
            count = omega (arith, w.count);
            image = put_image key h (slots_of form) x with_new w.image q;
          })

-- How many pages a find judges, on a file that stands: those from the home to the page that holds
-- the request, or would take it.
use mathlib.Core.Path.{◌≡◌, refl, sym, ap, ◌∙◌}
use mathlib.Core.Option.{Option, none, some}
use mathlib.Core.List.Permᴰ
use mathlib.Core.List.{List, [], ◌∷◌}
use Prim.Native.Nat.{ℕ, ◌+◌, ◌^◌, ◌≤◌, ◌<◌}
use native.Mathlib.Omega.{arith}
use Rattle.layouts.specs.Layout.{slots_of}
use Rattle.placing.specs.Image.{page, RecordSet}
use Rattle.placing.specs.Walks.{seek, find_in, put_in}
use Rattle.placing.proofs.Images.{one_image, find_image}
use Rattle.placing.proofs.Changes.{put_image, put_room}
use Rattle.placing.proofs.Perms.{perm-seek}
use Rattle.placing.proofs.Seek.{clash}
use Rattle.placing.proofs.Strays.{page-none, one_page}
use Rattle.pages.specs.Page.{Record, key, record_with, records_in}
use Rattle.pages.specs.Area.{part_at, area_from}
use Rattle.state.specs.State.{homes}
use Rattle.state.specs.Answer.{numbers}
use Rattle.walks.specs.Walks.{walk, find_answer}
use Rattle.walks.proofs.Clean.{clean_part}
use Rattle.walks.proofs.FindReads.{JudgesTo, find_judges}
use Rattle.register.specs.Files.{put, Left, numbers_of}
use Rattle.register.proofs.OnImage.{on_clean, on_order, home_low}
use Rattle.register.proofs.ImageCalls.{find-leaves, others}
use Rattle.demands.specs.Histories.{Kept, state_of, commit_of, holding}
use Rattle.demands.specs.ReadMoved.{HeldOn, read_to}
use Rattle.demands.proofs.Sets.{seek-some, set_put}
use Rattle.demands.proofs.Standing.{Stands, file_of, Accepts, misses}

module _ {m : Kept} {ps : List (List Record)} (s : Stands m ps) where
  abbrev h : ℕ → ℕ
  h = homes (state_of m)

  -- what page b of the file holds, by the page and by its bytes
  on_page : (k b v : ℕ) → HeldOn (file_of m ps) b k v → (x : Record) × (seek key k (page ps b) ≡ some x)
  on_page k b v w =
      let t = seek-some k (records_in m.layout (part_at (area_from m.layout 0 ps) b)) w.1 in
      (t.0, ap (λ (r : List Record). seek key k r) (sym (clean_part (on_clean s) b w.0)) ∙ t.2)

  -- as many pages are read as the walk judges
  reads : (k : ℕ) → read_to (file_of m ps) k ≡ h k + (numbers (find_answer (walk m.layout h (area_from m.layout 0 ps) m.cap k))).read
  reads k = ap (λ (t : Left). h k + (numbers_of t.said).read) (find-leaves s k (find_answer (walk m.layout h (area_from m.layout 0 ps) m.cap k)) refl)

  module _ (x : Record) (l : key x < 2 ^ 64) where
    judges : (read_to (file_of m ps) (key x) ≤ m.cap) × JudgesTo x ps (put_in key h (slots_of m.layout) x ps) (find_in key h (slots_of m.layout) (key x) ps) (read_to (file_of m ps) (key x))
    judges = rw (reads (key x)) (find_judges (on_clean s) (on_order s) x l (home_low s (key x)) (others s x l))

  module _ (k : ℕ) (l : k < 2 ^ 64) where
    pub read_within : read_to (file_of m ps) k ≤ m.cap
    read_within = (judges (record_with k 0 0) l).0

    -- where no record is met, no page holds one
    misses_pages : (b : ℕ) → find_in key h (slots_of m.layout) k ps ≡ none → seek key k (page ps b) ≡ none
    misses_pages b e =
        page-none key k ps b (perm-seek key k s.image.arranged.holds (on_order s).once ∙ sym (find_image key h (slots_of m.layout) k l s.set s.image) ∙ e)

    pub read_held : (b v : ℕ) → HeldOn (file_of m ps) b k v → read_to (file_of m ps) k ≡ b + 1
    read_held b v w = go (find_in key h (slots_of m.layout) k ps) refl (judges (record_with k 0 0) l).1
      where
        go : (o : Option Record) → find_in key h (slots_of m.layout) k ps ≡ o → JudgesTo (record_with k 0 0) ps (put_in key h (slots_of m.layout) (record_with k 0 0) ps) o (read_to (file_of m ps) k)
            → read_to (file_of m ps) k ≡ b + 1
        go (some y) e t = omega (arith, t.1, one_page key k y (on_page k b v w).0 ps t.0 b (on_order s).once t.2 (on_page k b v w).1)
        go none e t = absurd (clash (sym (misses_pages b e) ∙ (on_page k b v w).1))

module _ {m : Kept} {ps : List (List Record)} (s : Stands m ps) (x : Record) (l : key x < 2 ^ 64) (e : commit_of (key x) m.held ≡ none) (a : Accepts m (holding m (x ∷ m.held)) ps (put x) 0 []) where
  new : RecordSet key (x ∷ m.held)
  new = set_put x s.set l e

  -- nothing comes past the end where a put is accepted
  fits : (put_in key (homes (state_of m)) (slots_of m.layout) x ps).1 ≡ []
  fits = (put_room key (homes (state_of m)) (slots_of m.layout) x new s.image).1 (a.pages, a.stands.image.arranged)

  -- and the pages that it leaves are those of its walk
  walked : a.pages ≡ (put_in key (homes (state_of m)) (slots_of m.layout) x ps).0
  walked =
      one_image key (homes (state_of m)) (slots_of m.layout) new (Permᴰ.refl (x ∷ m.held)) a.stands.image (put_image key (homes (state_of m)) (slots_of m.layout) x new s.image fits)

  -- so the page that holds the request after it is the one where the walk of a find ended
  pub read_new : (b w : ℕ) → HeldOn (file_of (holding m (x ∷ m.held)) a.pages) b (key x) w → read_to (file_of m ps) (key x) ≡ b + 1
  read_new b w t =
      let there = rw (misses s (key x) l e) at (judges s x l).1 in
      let c = there fits in
      omega (arith, c.1, one_page key (key x) x (on_page a.stands (key x) b w t).0 a.pages c.0 b (on_order a.stands).once (ap (λ (q : List (List Record)). seek key (key x) (page q c.0)) walked ∙ c.2) (on_page a.stands (key x) b w t).1)

-- What is promised of records on pages (01, 'The one image' and 'The walks'), for any records, any
-- home of a key and any number of slots to a page. What is quoted is 01's.
use Rattle.std.specs.Prelude.{ℕ, ◌^◌, ◌≤◌, ◌<◌, ◌≡◌, ◌↔◌, length}
use mathlib.Core.List.{List, [], ◌∷◌, Permᴰ}
use Rattle.placing.specs.Image.{page, RecordSet, home_of, Arrangement, NoGap, Image, Room}
use Rattle.placing.specs.Lay.{rank_in, sort, lay, taken}
use Rattle.placing.specs.Walks.{seek, del, find_in, put_in, remove_in}

module _ {R : Type 0} (key : R → ℕ) (h : ℕ → ℕ) (b : ℕ) where
  pub record PlacingPromises : Type 0 where
    -- "At most one image exists": it is set by the number of pages and the records, whatever order
    -- brought them
    pub one_image : {n : ℕ} {s t : List R} {ps qs : List (List R)} → RecordSet key s → Permᴰ s t
        → Image key h b n s ps → Image key h b n t qs → ps ≡ qs
    -- "Larson leaves the first comer where it is. Here the lower home goes first .. The number of
    -- records on each page is the same either way": with no gap below any record, in any order
    pub page_counts : {n : ℕ} {s t : List R} {ps qs : List (List R)} → Permᴰ s t
        → Arrangement key h b n s ps → NoGap key h b ps → Arrangement key h b n t qs → NoGap key h b qs
        → (a : ℕ) → length (page ps a) ≡ length (page qs a)
    -- Demand 3's room, that an arrangement "puts every record .. at its home page .. or a higher
    -- one", is that the pages can take as many records as there are
    pub room : (n : ℕ) (s : List R) → RecordSet key s → Room key h b n s ↔ (taken (home_of key h) b s n ≡ length s)
    -- and where there is room there is an image: the records in order of (home, key), laid out
    pub room_image : (n : ℕ) (s : List R) → RecordSet key s → Room key h b n s
        → Image key h b n s (lay (home_of key h) b n 0 (sort (rank_in key h) s))
    -- 02, request 10: where records "only get lower homes", an arrangement stays one, so there is
    -- always room
    pub room_lower : (h' : ℕ → ℕ) (n : ℕ) (s : List R) → ((k : ℕ) → h' k ≤ h k) → Room key h b n s → Room key h' b n s
    -- "A page that holds the key ends it with the value. Otherwise .. 5": on an image, find's walk
    -- comes to the record of the key exactly where one is held
    pub find_image : {n : ℕ} {s : List R} {ps : List (List R)} (k : ℕ) → k < 2 ^ 64 → RecordSet key s
        → Image key h b n s ps → find_in key h b k ps ≡ seek key k s
    -- "the record goes to its place in order on the ending page": where nothing comes past the end,
    -- put's walk of a record that is not held leaves the image with it
    pub put_image : {n : ℕ} {s : List R} {ps : List (List R)} (x : R) → RecordSet key (x ∷ s)
        → Image key h b n s ps → (put_in key h b x ps).1 ≡ [] → Image key h b n (x ∷ s) (put_in key h b x ps).0
    -- "Past the end, or where the walk met only full pages to the end of the area: 7": that is
    -- exactly where there is no room
    pub put_room : {n : ℕ} {s : List R} {ps : List (List R)} (x : R) → RecordSet key (x ∷ s)
        → Image key h b n s ps → ((put_in key h b x ps).1 ≡ []) ↔ Room key h b n (x ∷ s)
    -- "Remove finds the key and closes the slots up": it leaves the image without the record of
    -- that key
    pub remove_image : {n : ℕ} {s : List R} {ps : List (List R)} (k : ℕ) → k < 2 ^ 64 → RecordSet key s
        → Image key h b n s ps → Image key h b n (del key k s) (remove_in key h b k ps)

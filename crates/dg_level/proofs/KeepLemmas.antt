-- Rows in one text: what is cut out of it, and one row more.
use Rattle.std.proofs.Common.{◌≡◌, ℕ, zero, suc, ◌+◌, ◌-◌, ◌<◌, ◌≤◌, true, List, [], ◌∷◌, ◌++◌, take, drop, length, get_or, flat_map, refl, sym, ap, ◌∙◌, subst, arith, length-append, append-nil, append_assoc, take-append-drop}
use Rattle.std.specs.Prelude.{slice_range}
use Rattle.std.specs.List.{list_all}
use Rattle.std.specs.Str.{IsUtf8, is_utf8, IsCharBoundary}
use Rattle.std.proofs.lemmas.List.{take_at, drop_at}
use Rattle.std.proofs.lemmas.List.Concat.{flat_map-append}
use Rattle.std.proofs.lemmas.List.Sums.{sum_by-cons}
use Rattle.std.proofs.lemmas.Bool.{and_parts, and_from}
use Rattle.std.proofs.lemmas.Str.{IsUtf8-append, IsUtf8-nil, IsUtf8-from_is_utf8, is_utf8-from_IsUtf8, IsCharBoundary-at_seam}
use Rattle.dg_level.specs.Rows.{Written, total}
use Rattle.dg_level.specs.Keeping.{rows_in, last_end, ends_of, AreKept}

-- the rows one after another
abbrev flat : List (List ℕ) → List ℕ
flat = flat_map (λ row. row)

-- a text of rows is cut into these
cut_is : (text before : List ℕ) (from : ℕ) (rows : List (List ℕ)) → from ≡ length before → text ≡ before ++ flat rows → rows_in text from (ends_of from rows) ≡ rows
cut_is text before from [] at is = refl
cut_is text before from (row ∷ rows) at is =
    let left : drop from text ≡ row ++ flat rows = ap (drop from) is ∙ drop_at before (row ++ flat rows) from (sym at) in
    let first : slice_range text from (from + length row) ≡ row = ap (take (from + length row - from)) left ∙ take_at row (flat rows) (from + length row - from) (omega arith) in
    let others : rows_in text (from + length row) (ends_of (from + length row) rows) ≡ rows =
    cut_is text (before ++ row) (from + length row) rows (omega (arith, at, length-append before row)) (is ∙ sym (append_assoc before row (flat rows))) in
    λ i. first i ∷ others i

flat_more : (rows : List (List ℕ)) (row : List ℕ) → flat (rows ++ row ∷ []) ≡ flat rows ++ row
flat_more rows row = flat_map-append (λ (r : List ℕ). r) rows (row ∷ []) ∙ ap (λ r. flat rows ++ r) (append-nil row)

ends_more : (from : ℕ) (rows : List (List ℕ)) (row : List ℕ) (end : ℕ) → end ≡ from + (length (flat rows) + length row) → ends_of from (rows ++ row ∷ []) ≡ ends_of from rows ++ end ∷ []
ends_more from [] row end is = ap (λ n. n ∷ []) (omega (arith, is))
ends_more from (r ∷ rows) row end is = ap (λ l. (from + length r) ∷ l) (ends_more (from + length r) rows row end (omega (arith, is, length-append r (flat rows))))

-- how long the text of rows is
pub length_flat : (rows : List (List ℕ)) → length (flat rows) ≡ total rows
length_flat [] = refl
length_flat (row ∷ rows) = omega (arith, length-append row (flat rows), length_flat rows, sum_by-cons length row rows)

-- where the rows before a place end
ended : (from : ℕ) (rows : List (List ℕ)) (n : ℕ) → last_end from (take n (ends_of from rows)) ≡ from + length (flat (take n rows))
ended from [] zero = omega arith
ended from [] (suc n) = omega arith
ended from (row ∷ rows) zero = omega arith
ended from (row ∷ rows) (suc n) = ended (from + length row) rows n ∙ omega (arith, length-append row (flat (take n rows)))

-- the row at a place, by where it begins and ends
row_at : (text : List ℕ) (from : ℕ) (ends : List ℕ) (place : ℕ) → place < length ends
    → slice_range text (last_end from (take place ends)) (last_end from (take (suc place) ends)) ≡ get_or (rows_in text from ends) place []
row_at text from [] place lt = absurd (omega (arith, lt))
row_at text from (end ∷ ends) zero lt = refl
row_at text from (end ∷ ends) (suc place) lt = row_at text end ends place (omega (arith, lt))

pub row_at_place : (text : List ℕ) (ends : List ℕ) (place : ℕ) → place < length ends
    → slice_range text (last_end 0 (take place ends)) (last_end 0 (take (place + 1) ends)) ≡ get_or (rows_in text 0 ends) place []
row_at_place text ends place lt = let e : place + 1 ≡ suc place = omega arith in ap (λ n. slice_range text (last_end 0 (take place ends)) (last_end 0 (take n ends))) e ∙ row_at text 0 ends place lt

last_taken : (from : ℕ) (ends : List ℕ) (place d : ℕ) → place < length ends → get_or ends place d ≡ last_end from (take (suc place) ends)
last_taken from [] place d lt = absurd (omega (arith, lt))
last_taken from (end ∷ ends) zero d lt = refl
last_taken from (end ∷ ends) (suc place) d lt = last_taken end ends place d (omega (arith, lt))

-- what stands before a place is where its row begins
pub begins_at : (ends : List ℕ) (place d : ℕ) → 0 < place → place ≤ length ends → get_or ends (place - 1) d ≡ last_end 0 (take place ends)
begins_at ends place d above le =
    let e : suc (place - 1) ≡ place = omega (arith, above) in
    last_taken 0 ends (place - 1) d (omega (arith, above, le)) ∙ ap (λ n. last_end 0 (take n ends)) e

-- as many rows as ends
pub rows_long : (text : List ℕ) (from : ℕ) (ends : List ℕ) → length (rows_in text from ends) ≡ length ends
rows_long text from [] = refl
rows_long text from (end ∷ ends) = omega (arith, rows_long text end ends)

all_utf8 : (rows : List (List ℕ)) → list_all is_utf8 rows ≡ true → IsUtf8 (flat rows)
all_utf8 [] all = IsUtf8-nil
all_utf8 (row ∷ rows) all = IsUtf8-append row (flat rows) (IsUtf8-from_is_utf8 row (and_parts _ _ all).0) (all_utf8 rows (and_parts _ _ all).1)

later_utf8 : (n : ℕ) (rows : List (List ℕ)) → list_all is_utf8 rows ≡ true → list_all is_utf8 (drop n rows) ≡ true
later_utf8 zero rows all = all
later_utf8 (suc n) [] all = all
later_utf8 (suc n) (row ∷ rows) all = later_utf8 n rows (and_parts _ _ all).1

more_utf8 : (rows : List (List ℕ)) (row : List ℕ) → list_all is_utf8 rows ≡ true → is_utf8 row ≡ true → list_all is_utf8 (rows ++ row ∷ []) ≡ true
more_utf8 [] row all one = and_from _ _ one refl
more_utf8 (r ∷ rows) row all one = and_from _ _ (and_parts _ _ all).0 (more_utf8 rows row (and_parts _ _ all).1 one)

module _ {text ends begun : List ℕ} {limit : ℕ} (kept : AreKept text ends begun limit (rows_in text 0 ends)) where
  -- how long the rows are together
  pub total_is : length text ≡ total (rows_in text 0 ends)
  total_is = ap length kept.text_is ∙ length_flat (rows_in text 0 ends)

  -- another text in the place of the one that is begun
  pub begun_anew : (now : List ℕ) (room : ℕ) (w : Written) → ◌≡◌ {A = Written} (record { rows = rows_in text 0 ends; begun = begun; limit = limit }) w → room + total w.rows ≡ w.limit → (length begun ≤ room → length now ≤ room)
      → AreKept text ends now limit (rows_in text 0 ends)
  begun_anew now room w is left fits =
      let in_rows : total (rows_in text 0 ends) ≡ total w.rows = ap (λ (v : Written). total v.rows) is in
      let in_limit : limit ≡ w.limit = ap (λ (v : Written). v.limit) is in
      let before : length begun ≤ room = omega (arith, total_is, in_rows, in_limit, left, kept.within) in
      record { text_is = kept.text_is; ends_are = kept.ends_are; texts = kept.texts; within = omega (arith, total_is, in_rows, in_limit, left, fits before); small = kept.small }

  where_it_ends : (n : ℕ) → last_end 0 (take n ends) ≡ length (flat (take n (rows_in text 0 ends)))
  where_it_ends n = ap (λ e. last_end 0 (take n e)) kept.ends_are ∙ ended 0 (rows_in text 0 ends) n ∙ omega arith

  -- the text can be cut where rows end
  pub boundary : (n : ℕ) → IsCharBoundary text (last_end 0 (take n ends))
  boundary n =
      let rows = rows_in text 0 ends in
      let parted : text ≡ flat (take n rows) ++ flat (drop n rows) = kept.text_is ∙ ap flat (sym (take-append-drop n rows)) ∙ flat_map-append (λ (r : List ℕ). r) (take n rows) (drop n rows) in
      subst (λ m. IsCharBoundary text m) (sym (where_it_ends n)) (IsCharBoundary-at_seam text (flat (take n rows)) (flat (drop n rows)) parted (all_utf8 (drop n rows) (later_utf8 n rows kept.texts)))

  -- a row ends no sooner than it begins
  pub in_order : (n : ℕ) → last_end 0 (take n ends) ≤ last_end 0 (take (n + 1) ends)
  in_order n = omega (arith, where_it_ends n, where_it_ends (n + 1), longer (rows_in text 0 ends) n)
    where
      longer : (rows : List (List ℕ)) (n : ℕ) → length (flat (take n rows)) ≤ length (flat (take (n + 1) rows))
      longer rows n = let e : n + 1 ≡ suc n = omega arith in subst (λ m. length (flat (take n rows)) ≤ length (flat (take m rows))) (sym e) (step rows n)
        where
          step : (rows : List (List ℕ)) (n : ℕ) → length (flat (take n rows)) ≤ length (flat (take (suc n) rows))
          step [] zero = omega arith
          step [] (suc n) = omega arith
          step (row ∷ rows) zero = omega arith
          step (row ∷ rows) (suc n) = omega (arith, length-append row (flat (take n rows)), length-append row (flat (take (suc n) rows)), step rows n)

  module _ (text_now ends_now : List ℕ) (utf8 : IsUtf8 begun) (text_is : text_now ≡ text ++ begun) (ends_are : ends_now ≡ ends ++ length (text ++ begun) ∷ []) where
    whole : text_now ≡ flat (rows_in text 0 ends ++ begun ∷ [])
    whole = text_is ∙ ap (λ t. t ++ begun) kept.text_is ∙ sym (flat_more (rows_in text 0 ends) begun)

    ended_now : ends_now ≡ ends_of 0 (rows_in text 0 ends ++ begun ∷ [])
    ended_now =
        ends_are
        ∙ ap (λ e. e ++ length (text ++ begun) ∷ []) kept.ends_are
        ∙ sym (ends_more 0 (rows_in text 0 ends) begun (length (text ++ begun)) (omega (arith, length-append text begun, ap length kept.text_is)))

    -- the row that was begun is the next one
    pub closed : rows_in text_now 0 ends_now ≡ rows_in text 0 ends ++ begun ∷ []
    closed = ap (rows_in text_now 0) ended_now ∙ cut_is text_now [] 0 (rows_in text 0 ends ++ begun ∷ []) refl whole

    pub kept_closed : AreKept text_now ends_now [] limit (rows_in text_now 0 ends_now)
    kept_closed = record {
      text_is = whole ∙ ap flat (sym closed);
      ends_are = ended_now ∙ ap (ends_of 0) (sym closed);
      texts = ap (list_all is_utf8) closed ∙ more_utf8 (rows_in text 0 ends) begun kept.texts (is_utf8-from_IsUtf8 begun utf8);
      within = omega (arith, kept.within, ap length text_is, length-append text begun);
      small = kept.small;
    }

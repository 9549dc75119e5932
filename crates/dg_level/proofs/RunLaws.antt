-- What blocks and fields show, one by one.
use Rattle.std.proofs.Common.{◌≡◌, ℕ, zero, suc, ◌+◌, ◌<◌, Bool, false, List, [], ◌∷◌, ◌++◌, map, flat_map, take, drop, length, get_or, sym, ap, ◌∙◌, subst, arith, append-nil, take-append-drop}
use Rattle.std.proofs.lemmas.List.{map-append, take_more}
use Rattle.std.proofs.lemmas.List.Concat.{flat_map-append}
use Rattle.dg_schema.specs.declared.definition.PredDef.{PredDef}
use Rattle.dg_parse.specs.declared.query.QBlock.{QBlock}
use Rattle.dg_check.specs.declared.parts.Parts.{Parts}
use Rattle.dg_check.specs.Parts.{IsBlockOf, AreBlocksOf}
use Rattle.dg_check.specs.Variables.{Definition}
use Rattle.dg_level.specs.Parts.{parts_text, has_parts}
use Rattle.dg_level.proofs.PartLaws.{parts_added, has_added, parts_pass}

kept_at : (schema : List PredDef) (ds : List Definition) (blocks : List QBlock) (kept : List Parts) (i : ℕ) (b : QBlock) (k : Parts) → AreBlocksOf schema ds blocks kept → i < length blocks
    → IsBlockOf schema ds (get_or blocks i b) (get_or kept i k)
kept_at schema ds [] kept i b k are lt = absurd (omega (arith, lt))
kept_at schema ds (block ∷ blocks) [] i b k are lt = absurd are
kept_at schema ds (block ∷ blocks) (one ∷ kept) zero b k are lt = are.0
kept_at schema ds (block ∷ blocks) (one ∷ kept) (suc i) b k are lt = kept_at schema ds blocks kept i b k are.1 (omega (arith, lt))

-- what is kept of the block at a place
pub block_at : (schema : List PredDef) (ds : List Definition) (blocks : List QBlock) (kept : List Parts) (i : ℕ) (b : QBlock) (k : Parts) → AreBlocksOf schema ds blocks kept → i < length blocks
    → b ≡ get_or blocks i b → k ≡ get_or kept i k → IsBlockOf schema ds b k
block_at schema ds blocks kept i b k are lt block part =
    subst (λ (one : QBlock). IsBlockOf schema ds one k) (sym block) (subst (λ (one : Parts). IsBlockOf schema ds (get_or blocks i b) one) (sym part) (kept_at schema ds blocks kept i b k are lt))

-- what each of some items shows, and the text of that
module _ {A B : Type 0} (shown : A → List B) (text : B → List ℕ) where
  -- the texts of what one shows
  abbrev pub text_of_one : A → List (List ℕ)
  text_of_one item = map text (shown item)

  -- the texts of what all show
  abbrev pub texts_of : List A → List (List ℕ)
  texts_of items = map text (flat_map shown items)

  texts_joined : (items more : List A) → texts_of (items ++ more) ≡ texts_of items ++ texts_of more
  texts_joined items more = ap (map text) (flat_map-append shown items more) ∙ map-append text (flat_map shown items) (flat_map shown more)

  one_text : (item : A) → texts_of (item ∷ []) ≡ text_of_one item
  one_text item = ap (map text) (append-nil (shown item))

  module _ (items : List A) (i : ℕ) (item : A) (lt : i < length items) (is : item ≡ get_or items i item) where
    -- one more
    pub texts_more : texts_of (take (i + 1) items) ≡ texts_of (take i items) ++ text_of_one item
    texts_more =
        ap texts_of (take_more items i item lt ∙ ap (λ b. take i items ++ b ∷ []) (sym is))
        ∙ texts_joined (take i items) (item ∷ [])
        ∙ ap (λ t. texts_of (take i items) ++ t) (one_text item)

    -- all of them
    pub all_texts : texts_of items ≡ (texts_of (take i items) ++ text_of_one item) ++ texts_of (drop (i + 1) items)
    all_texts =
        ap texts_of (sym (take-append-drop (i + 1) items))
        ∙ texts_joined (take (i + 1) items) (drop (i + 1) items)
        ∙ ap (λ t. t ++ texts_of (drop (i + 1) items)) texts_more

    module _ (old out : List ℕ) (wrote : Bool) (so_far : out ≡ old ++ parts_text false (texts_of (take i items))) (has : wrote ≡ has_parts false (texts_of (take i items))) where
      -- after one more
      pub one_written : (now : List ℕ) → now ≡ out ++ parts_text wrote (text_of_one item) → now ≡ old ++ parts_text false (texts_of (take (i + 1) items))
      one_written now added = parts_added old out false wrote (texts_of (take i items)) so_far has (text_of_one item) now added ∙ ap (λ t. old ++ parts_text false t) (sym texts_more)

      pub one_there : (now : Bool) → now ≡ has_parts wrote (text_of_one item) → now ≡ has_parts false (texts_of (take (i + 1) items))
      one_there now added = has_added old out false wrote (texts_of (take i items)) so_far has (text_of_one item) now added ∙ ap (has_parts false) (sym texts_more)

      -- what is too large with one more is too large with all
      pub one_passes : (limit : ℕ) → limit < length (out ++ parts_text wrote (text_of_one item)) → limit < length (old ++ parts_text false (texts_of items))
      one_passes limit above =
          omega (arith, parts_pass old out false wrote (texts_of (take i items)) so_far has (text_of_one item) (texts_of (drop (i + 1) items)) (texts_of items) 0 limit all_texts (omega (arith, above)))

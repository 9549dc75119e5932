-- Columns over a set of nodes, by their places in it.
use Rattle.std.proofs.Common.{◌≡◌, ℕ, zero, suc, ◌<◌, Bool, true, false, List, [], ◌∷◌, ◌++◌, map, length, get_or, Vec, Global, refl, sym, ap, subst, ◌∙◌, arith}
use Rattle.std.specs.Prelude.{Option, Some, None, if◌then◌else◌, option_map, slice_get, filter}
use Rattle.std.specs.Ordering.{nat_cmp}
use Rattle.dg_values.specs.Ascending.{has}
use Rattle.dg_graph.specs.declared.change.Triple.{Triple}
use Rattle.dg_check.specs.declared.vars.Variable.{Variable}
use Rattle.dg_recurse.specs.declared.column.Column.{Column}
use Rattle.dg_recurse.specs.declared.column.Column.TheVariants as columns
use Rattle.dg_tree.specs.declared.tree.Field.{Field}
use Rattle.dg_level.specs.declared.looped.Fetched.{Fetched}
use Rattle.dg_level.specs.declared.looped.Lists.{Lists}
use Rattle.dg_level.specs.Rows.{row_text}
use Rattle.dg_level.specs.Shown.{under}
use Rattle.dg_level.specs.Looping.{PieceOf, piece_from, nodes_in, lists_as, IsFetched, AreFetched}
use Rattle.dg_level.specs.Placing.{name_of, leads_from, ArePlaces, AllPlaces, IsPlaced, ArePlaced}
use Rattle.dg_level.specs.Reaching.{piece_within, led_to}
use Rattle.dg_level.specs.Unfolding.{own, edge}
use Rattle.dg_level.proofs.LoopLaws.{no_leads, some_leads}
use Rattle.dg_level.proofs.LoopRows.{nowhere, as_many}

-- ---- lists

pub all_more : (set : List ℕ) (lists made : List (List ℕ)) (list places : List ℕ) → AllPlaces set lists made → ArePlaces set list places → AllPlaces set (lists ++ list ∷ []) (made ++ places ∷ [])
all_more set [] [] list places are is = (is, tt)
all_more set [] (m ∷ made) list places are is = absurd are
all_more set (l ∷ lists) [] list places are is = absurd are
all_more set (l ∷ lists) (m ∷ made) list places are is = (are.0, all_more set lists made list places are.1 is)

all_at : (set : List ℕ) (lists made : List (List ℕ)) (place : ℕ) → AllPlaces set lists made → place < length lists → ArePlaces set (get_or lists place []) (get_or made place [])
all_at set [] made place are lt = absurd (omega (arith, lt))
all_at set (l ∷ lists) [] place are lt = absurd are
all_at set (l ∷ lists) (m ∷ made) zero are lt = are.0
all_at set (l ∷ lists) (m ∷ made) (suc place) are lt = all_at set lists made place are.1 (omega (arith, lt))

list_of_node : (list : ℕ → List ℕ) (set : List ℕ) (place : ℕ) → place < length set → get_or (map list set) place [] ≡ list (get_or set place 0)
list_of_node list [] place lt = absurd (omega (arith, lt))
list_of_node list (n ∷ set) zero lt = refl
list_of_node list (n ∷ set) (suc place) lt = list_of_node list set place (omega (arith, lt))

mapped_length : (list : ℕ → List ℕ) (set : List ℕ) → length (map list set) ≡ length set
mapped_length list [] = refl
mapped_length list (n ∷ set) = ap suc (mapped_length list set)

-- ---- what was fetched of a node

place_within : {X : Type 0} (xs : List X) (i : ℕ) (x : X) → slice_get xs i ≡ Some x → i < length xs
place_within [] i x e = absurd (cc)
place_within (y ∷ xs) zero x e = omega arith
place_within (y ∷ xs) (suc i) x e = omega (arith, place_within xs i x e)

pub piece_there : (pieces : List PieceOf) (i : ℕ) → i < length pieces → slice_get pieces i ≡ Some (get_or pieces i nowhere)
piece_there [] i lt = absurd (omega (arith, lt))
piece_there (p ∷ pieces) zero lt = refl
piece_there (p ∷ pieces) (suc i) lt = piece_there pieces i (omega (arith, lt))

module _ (graph : List Triple) (vars : List Variable) (nodes : List ℕ) where
  at_field : (all : List Fetched) (pieces : List PieceOf) (i : ℕ) (d : Fetched) (piece : PieceOf) → AreFetched graph vars nodes all pieces → slice_get pieces i ≡ Some piece → IsFetched graph vars nodes (get_or all i d) piece
  at_field [] [] i d piece are e = absurd (cc)
  at_field [] (p ∷ pieces) i d piece are e = absurd are
  at_field (f ∷ all) [] i d piece are e = absurd are
  at_field (f ∷ all) (p ∷ pieces) zero d piece are e = let same : p ≡ piece = cc in subst (IsFetched graph vars nodes f) same are.0
  at_field (f ∷ all) (p ∷ pieces) (suc i) d piece are e = at_field all pieces i d piece are.1 e

  -- each field was fetched
  pub field_there : (all : List Fetched) (pieces : List PieceOf) (i : ℕ) (piece : PieceOf) → AreFetched graph vars nodes all pieces → slice_get pieces i ≡ Some piece → i < length all
  field_there all pieces i piece are e = omega (arith, place_within pieces i piece e, as_many graph vars nodes all pieces are)

  pub field_at : (all : List Fetched) (pieces : List PieceOf) (i : ℕ) (fetched : Fetched) (piece : PieceOf) → AreFetched graph vars nodes all pieces → slice_get pieces i ≡ Some piece → fetched ≡ get_or all i fetched → IsFetched graph vars nodes fetched piece
  field_at all pieces i fetched piece are e is = subst (λ f. IsFetched graph vars nodes f piece) (sym is) (at_field all pieces i fetched piece are e)

  module _ (fetched : Fetched) (piece : PieceOf) (is : IsFetched graph vars nodes fetched piece) (node : ℕ) where
    -- of a field that leads to no nodes
    pub leads_nowhere : fetched.lists ≡ None → [] ≡ nodes_in (piece node)
    leads_nowhere none =
        let leads = no_leads nodes is.leads (ap (option_map lists_as) (sym none) ∙ is.lists_are) in
        sym (ap nodes_in (is.piece_is node ∙ ap (λ l. piece_from is.name is.shown l node) leads))

    -- of one that does
    pub leads_there : (lists : Lists) → fetched.lists ≡ Some lists → (list : ℕ → List ℕ) × (lists.lists.items ≡ map list nodes) × (list node ≡ nodes_in (piece node))
    leads_there lists some =
        let leads = some_leads nodes lists is.leads (ap (option_map lists_as) (sym some) ∙ is.lists_are) in
        (leads.0.1, leads.3, sym (ap nodes_in (is.piece_is node ∙ ap (λ l. piece_from is.name is.shown l node) leads.1)))

-- ---- what nodes show of themselves

-- the fields at a place: none behind the last
abbrev fields_of : (ℕ → List Field) → Option ℕ → List Field
fields_of fields None = []
fields_of fields (Some n) = fields n

own_texts_at : (fields : ℕ → List Field) (set : List ℕ) (place : ℕ) → get_or (map (λ n. row_text (fields n)) set) place [] ≡ row_text (fields_of fields (slice_get set place))
own_texts_at fields [] place = refl
own_texts_at fields (n ∷ set) zero = refl
own_texts_at fields (n ∷ set) (suc place) = own_texts_at fields set place

own_fields_at : (fields : ℕ → List Field) (set : List ℕ) (place : ℕ) → place < length set → fields_of fields (slice_get set place) ≡ fields (get_or set place 0)
own_fields_at fields [] place lt = absurd (omega (arith, lt))
own_fields_at fields (n ∷ set) zero lt = refl
own_fields_at fields (n ∷ set) (suc place) lt = own_fields_at fields set place (omega (arith, lt))

-- ---- columns

-- from a node that isn't near nothing is left of a list
none_led : (nodes : List ℕ) → filter (λ n. has nat_cmp [] n) nodes ≡ []
none_led [] = refl
none_led (n ∷ nodes) = none_led nodes

led_alike : (set : List ℕ) (b : Bool) (nodes : List ℕ) → filter (λ n. has nat_cmp (if b then set else []) n) nodes ≡ filter (λ n. has nat_cmp set n) (if b then nodes else [])
led_alike set true nodes = refl
led_alike set false nodes = none_led nodes

module _ (graph : List Triple) (vars : List Variable) (near : ℕ → Bool) (set : List ℕ) (fetched : Fetched) (piece : PieceOf) (is : IsFetched graph vars [] fetched piece) where
  abbrev own_fields : ℕ → List Field
  own_fields n = map (under is.name) (is.shown n)

  -- of a field that leads to no nodes
  pub own_placed : (texts : Vec (List ℕ) Global) → fetched.lists ≡ None → texts.items ≡ map (λ n. row_text (own_fields n)) set → IsPlaced near set (columns.Own texts) piece
  own_placed texts none texts_are =
      let leads = no_leads [] is.leads (ap (option_map lists_as) (sym none) ∙ is.lists_are) in
      record {
        placed = λ place. own (fields_of own_fields (slice_get set place));
        holds = λ place. (fields_of own_fields (slice_get set place), refl, ap (λ ts. get_or ts place []) texts_are ∙ own_texts_at own_fields set place);
        names = λ place lt.
            ap (piece_within (led_to near set (name_of set place))) (is.piece_is (name_of set place) ∙ ap (λ l. piece_from is.name is.shown l (name_of set place)) leads)
            ∙ ap own (sym (own_fields_at own_fields set place lt));
        below = λ place lt. tt;
      }

  -- of one that does
  pub edge_placed : (lists : Lists) (key : List ℕ) (places : Vec (List ℕ) Global) → fetched.lists ≡ Some lists → key ≡ fetched.key → AllPlaces set (map (leads_from near piece) set) places.items → IsPlaced near set (columns.Edge key lists.single places) piece
  edge_placed lists key places some key_is are =
      let leads = some_leads [] lists is.leads (ap (option_map lists_as) (sym some) ∙ is.lists_are) in
      let ls = leads.0 in
      let is_edge : (n : ℕ) → piece n ≡ edge is.name ls.0 (ls.1 n) = λ n. is.piece_is n ∙ ap (λ l. piece_from is.name is.shown l n) leads.1 in
      let here = λ (place : ℕ) (lt : place < length set). all_at set (map (leads_from near piece) set) places.items place are (omega (arith, lt, mapped_length (leads_from near piece) set)) in
      let kept : (place : ℕ) → place < length set → filter (λ n. has nat_cmp (led_to near set (name_of set place)) n) (ls.1 (name_of set place)) ≡ map (name_of set) (get_or places.items place []) =
      λ place lt.
      led_alike set (near (name_of set place)) (ls.1 (name_of set place))
      ∙ (λ j. filter (λ n. has nat_cmp set n) (if near (name_of set place) then sym (ap nodes_in (is_edge (name_of set place))) j else []))
      ∙ ap (filter (λ n. has nat_cmp set n)) (sym (list_of_node (leads_from near piece) set place lt))
      ∙ sym (here place lt).names in
      record {
        placed = λ place. edge is.name lists.single (get_or places.items place []);
        holds = (is.name, key_is ∙ is.key_is, λ place. refl);
        names = λ place lt. ap (piece_within (led_to near set (name_of set place))) (is_edge (name_of set place)) ∙ (λ j. edge is.name (sym leads.2 j) (kept place lt j));
        below = λ place lt. (here place lt).below;
      }

-- one column more
pub placed_more : (near : ℕ → Bool) (set : List ℕ) (all : List Column) (pieces : List PieceOf) (column : Column) (piece : PieceOf) → ArePlaced near set all pieces → IsPlaced near set column piece → ArePlaced near set (all ++ column ∷ []) (pieces ++ piece ∷ [])
placed_more near set [] [] column piece are is = (is, tt)
placed_more near set [] (p ∷ pieces) column piece are is = absurd are
placed_more near set (c ∷ all) [] column piece are is = absurd are
placed_more near set (c ∷ all) (p ∷ pieces) column piece are is = (are.0, placed_more near set all pieces column piece are.1 is)

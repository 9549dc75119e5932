-- The nodes that the keys of a span show are those that are looked up in the graph.
use Rattle.std.proofs.Common.{◌≡◌, ◌∙◌, sym, ap, refl, arith, ℕ, nat_le, Bool, true, false, List, [], ◌∷◌, Option, Some, None, ◌++◌, ◌+◌, ◌<◌, take, get_or, length}
use Rattle.std.specs.Prelude.{◌||◌, ◌&&◌, ◌==◌, filter_map, if◌then◌else◌}
use Rattle.std.proofs.lemmas.Grind.{common_steps}
use Rattle.std.proofs.lemmas.Bool.{eqb-true, eq-eqb}
use Rattle.std.proofs.lemmas.List.{take_more}
use Rattle.std.proofs.lemmas.List.Elements.{filter_map-append}
use Rattle.std.specs.List.{cons_option}
use Rattle.std.specs.declared.cmp.Ordering.{Ordering}
use Rattle.std.specs.declared.cmp.Ordering.TheVariants.{Less, Equal, Greater}
use Rattle.std.specs.Ordering.{nat_cmp, ordering_then, is_eq, is_le}
use Rattle.dg_values.specs.Ascending.{Ascends, ascending, has}
use Rattle.dg_values.specs.Order.{posting_cmp, text_cmp, value_cmp, tokenizer_cmp}
use Rattle.dg_values.specs.declared.kind.Tokenizer.{Tokenizer}
use Rattle.dg_values.specs.declared.value.Value.{Value}
use Rattle.dg_values.specs.declared.value.Posting.{Posting}
use Rattle.dg_values.specs.declared.value.Posting.TheVariants.{Uid, Val}
use Rattle.dg_sets.proofs.MadeOrders.{nat_order, text_order, then_parts}
use Rattle.dg_sets.proofs.Sets.{is_one, is_itself, one_list, has_more, ascends_more}
use Rattle.dg_schema.specs.declared.definition.PredDef.{PredDef}
use Rattle.dg_schema.specs.Definitions.{definition_of}
use Rattle.dg_tokens.proofs.TokenOrder.{tokenizer_order}
use Rattle.dg_tokens.specs.declared.tokens.IndexToken.{IndexToken}
use Rattle.dg_graph.specs.declared.change.Triple.{Triple}
use Rattle.dg_graph.specs.Graphs.{objects}
use Rattle.dg_graph.specs.Laws.{IsListedBetween}
use Rattle.dg_graph.specs.Lookups.{has_tokenizer, is_so_by, is_indexed_by, has_reverse, has_count, has_numbers, subjects_where, subjects_of, holders, has_token, is_from, is_up_to, by_token_range, with_objects, with_subjects, node_in, number_of, is_number_up_to, has_number, by_count}
use Rattle.dg_graph.proofs.LookUpLaws.{holders_are, holders_ascend, range_ascend, range_token, token_range, with_objects_are, with_subjects_are, by_count_are, by_count_ascend}
use Rattle.dg_keys.specs.declared.key.Key.{Key}
use Rattle.dg_keys.specs.declared.key.Key.TheVariants.{Data, Index, Reverse, Count, RCount}
use Rattle.dg_zero.specs.Listings.{listing, listing_by, nodes}
use Rattle.dg_txn.specs.declared.span.Over.TheVariants.{Subjects, Tokens, Objects, Pointers}
use Rattle.dg_txn.specs.declared.span.Span.{Span}
use Rattle.dg_txn.specs.Spans.{below_end, value_place, number_place}
use Rattle.dg_txn.specs.Walks.{shown, Shows, AreShown}
use Rattle.dg_txn.proofs.SpanLaws.{IsInSpan, in_span}

same_bools : (a b : Bool) → (a ≡ true → b ≡ true) → (b ≡ true → a ≡ true) → a ≡ b
same_bools true b f g = sym (f refl)
same_bools false true f g = g refl
same_bools false false f g = refl

left_of : (a b : Bool) → (a && b) ≡ true → a ≡ true
left_of true b e = refl
left_of false b e = e

right_of : (a b : Bool) → (a && b) ≡ true → b ≡ true
right_of true b e = e
right_of false b e = absurd (cc)

both : (a b : Bool) → a ≡ true → b ≡ true → (a && b) ≡ true
both true b e f = f
both false b e f = absurd (cc)

-- ---- what is found, in order

-- the same lists show the same nodes
pub shown_as : (span : Span) (lists others : Key → List Posting) (found : List ℕ) → ((key : Key) → lists key ≡ others key) → AreShown span lists found → AreShown span others found
shown_as span lists others found e a =
    record {
      sound = λ n h. let s = a.sound n h in (s.0, s.1, (λ i. has nat_cmp (shown s.0 (sym (e s.0) i)) n) ∙ s.2);
      all = λ key n p h. a.all key n p ((λ i. has nat_cmp (shown key (e key i)) n) ∙ h);
    }

found_are : (span : Span) (lists : Key → List Posting) (found want : List ℕ) → AreShown span lists found → Ascends nat_cmp want → ((n : ℕ) → Shows span lists n → has nat_cmp want n ≡ true) → ((n : ℕ) → has nat_cmp want n ≡ true → Shows span lists n) → ascending nat_cmp found ≡ want
found_are span lists found want a w to from =
    one_list nat_cmp nat_order (ascending nat_cmp found) want (ascends_more nat_cmp nat_order [] found tt) w
    (λ n.
    has_more nat_cmp nat_order [] found n
    ∙ same_bools (has nat_cmp found n) (has nat_cmp want n) (λ h. to n (a.sound n h)) (λ h. let s = from n h in a.all s.0 n s.1 s.2))

-- ---- nodes among postings

pub nodes_among : (list : List Posting) (n : ℕ) → has nat_cmp (filter_map node_in list) n ≡ has posting_cmp list (Uid n)
nodes_among [] n = refl
nodes_among (Uid m ∷ list) n = ap (λ (b : Bool). is_eq (nat_cmp m n) || b) (nodes_among list n)
nodes_among (Val value ∷ list) n = nodes_among list n

pub among_nodes : (ns : List ℕ) (n : ℕ) → has posting_cmp (nodes ns) (Uid n) ≡ has nat_cmp ns n
among_nodes [] n = refl
among_nodes (m ∷ ns) n = ap (λ (b : Bool). is_eq (nat_cmp m n) || b) (among_nodes ns n)

pub only_nodes : (ns : List ℕ) → filter_map node_in (nodes ns) ≡ ns
only_nodes [] = refl
only_nodes (n ∷ ns) = ap (λ (rest : List ℕ). n ∷ rest) (only_nodes ns)

-- one posting more
pub nodes_more : (xs : List Posting) (i : ℕ) (x : Posting) → i < length xs → x ≡ get_or xs i x → filter_map node_in (take (i + 1) xs) ≡ filter_map node_in (take i xs) ++ cons_option (node_in x) []
nodes_more xs i x lt is =
    ap (filter_map node_in) (take_more xs i x lt)
    ∙ (filter_map-append node_in (take i xs) (get_or xs i x ∷ []) ∙ ap (λ (y : Posting). filter_map node_in (take i xs) ++ cons_option (node_in y) []) (sym is))

-- ---- places

itself : (p : List ℕ) (rest : Ordering) → ordering_then (text_cmp p p) rest ≡ rest
itself p rest = ap (λ (c : Ordering). ordering_then c rest) (text_order.itself p)

number_in : (low : ℕ) (high : Option ℕ) (n : ℕ) → number_place low high n ≡ Equal → (nat_le low n && is_number_up_to high n) ≡ true
number_in low None n e = grind (arith, common_steps)
number_in low (Some high) n e = grind (arith, common_steps)

number_there : (low : ℕ) (high : Option ℕ) (n : ℕ) → (nat_le low n && is_number_up_to high n) ≡ true → number_place low high n ≡ Equal
number_there low None n e = grind (arith, common_steps)
number_there low (Some high) n e = grind (arith, common_steps)

value_in : (low high : Option Value) (v : Value) → value_place low high v ≡ Equal → (is_from low v && is_up_to high v) ≡ true
value_in low high v = from low high
  where
    below : (high : Option Value) → below_end high v ≡ Equal → is_up_to high v ≡ true
    below None e = refl
    below (Some h) e = by (is_le (value_cmp v h)) e
      where
        by : (b : Bool) → (if b then Equal else Greater) ≡ Equal → b ≡ true
        by true e = refl
        by false e = absurd (cc)

    from : (low high : Option Value) → value_place low high v ≡ Equal → (is_from low v && is_up_to high v) ≡ true
    from None high e = below high e
    from (Some l) high e = by (is_le (value_cmp l v)) e
      where
        by : (b : Bool) → (if b then below_end high v else Less) ≡ Equal → (b && is_up_to high v) ≡ true
        by true e = below high e
        by false e = absurd (cc)

value_there : (low high : Option Value) (v : Value) → (is_from low v && is_up_to high v) ≡ true → value_place low high v ≡ Equal
value_there low high v = from low high
  where
    below : (high : Option Value) → is_up_to high v ≡ true → below_end high v ≡ Equal
    below None e = refl
    below (Some h) e = ap (λ (b : Bool). if b then Equal else Greater) e

    from : (low high : Option Value) → (is_from low v && is_up_to high v) ≡ true → value_place low high v ≡ Equal
    from None high e = below high e
    from (Some l) high e =
        ap (λ (b : Bool). if b then below_end high v else Less) (left_of (is_le (value_cmp l v)) (is_up_to high v) e)
        ∙ below high (right_of (is_le (value_cmp l v)) (is_up_to high v) e)

-- ---- the subjects that have an object

subject_shown : (p : List ℕ) (s : ℕ) (list : List Posting) (n : ℕ) → has nat_cmp (shown (Data p s) list) n ≡ true → (s ≡ n) × (nat_le 1 (length list) ≡ true)
subject_shown p s [] n h = absurd (cc)
subject_shown p s (o ∷ list) n h = (by (is_eq (nat_cmp s n)) refl h, some)
  where
    some : nat_le 1 (length (o ∷ list)) ≡ true
    some = grind (arith, common_steps)

    by : (v : Bool) → is_eq (nat_cmp s n) ≡ v → (v || false) ≡ true → s ≡ n
    by true e k = is_one nat_cmp nat_order s n e
    by false e k = absurd (cc)

shows_subject : (p : List ℕ) (s : ℕ) (list : List Posting) → nat_le 1 (length list) ≡ true → has nat_cmp (shown (Data p s) list) s ≡ true
shows_subject p s [] e = absurd (cc)
shows_subject p s (o ∷ list) e = ap (λ (b : Bool). b || false) (is_itself nat_cmp nat_order s)

module _ (schema : List PredDef) (graph : List Triple) (p : List ℕ) where
  pub holders_found : ((s : ℕ) → listing schema graph (Data p s) ≡ objects graph p s) → (found : List ℕ) → AreShown (record { pred = p; over = Subjects }) (listing schema graph) found → ascending nat_cmp found ≡ holders graph p
  holders_found same found a = found_are (record { pred = p; over = Subjects }) (listing schema graph) found (holders graph p) a (holders_ascend graph p) (λ n s. to n s.0 s.2 (in_span (record { pred = p; over = Subjects }) s.0 s.1)) from
    where
      to : (n : ℕ) (key : Key) → has nat_cmp (shown key (listing schema graph key)) n ≡ true → IsInSpan (record { pred = p; over = Subjects }) key → has nat_cmp (holders graph p) n ≡ true
      to n (Data q s) h i =
          let is = subject_shown q s (listing schema graph (Data q s)) n h in
          let list : listing schema graph (Data q s) ≡ objects graph p n = (λ j. listing schema graph (Data (i.pred j) (is.0 j))) ∙ same n in
          holders_are graph p n ∙ ((λ j. nat_le 1 (length (sym list j))) ∙ is.1)
      to n key h i = absurd (omega (arith, i.rank))

      from : (n : ℕ) → has nat_cmp (holders graph p) n ≡ true → Shows (record { pred = p; over = Subjects }) (listing schema graph) n
      from n h = (
        Data p n,
        itself p (ordering_then (nat_cmp 1 1) Equal),
        shows_subject p n (listing schema graph (Data p n)) ((λ j. nat_le 1 (length (same n j))) ∙ (sym (holders_are graph p n) ∙ h)),
      )

  -- ---- by tokens

  token_listing : (d : Option PredDef) (t : IndexToken) → is_so_by (λ def. has_tokenizer def t.tokenizer) d ≡ true → listing_by d graph (Index p t) ≡ nodes (subjects_where (has_token t) graph p)
  token_listing None t e = absurd (cc)
  token_listing (Some def) t e = ap (λ (b : Bool). if b then nodes (subjects_where (has_token t) graph p) else []) e

  -- what the key of a token lists
  pub token_lists : (t : IndexToken) → is_indexed_by schema p t.tokenizer ≡ true → listing schema graph (Index p t) ≡ nodes (subjects_where (has_token t) graph p)
  token_lists t e = token_listing (definition_of schema p) t e

  pub range_found : (tokenizer : Tokenizer) (low high : Option Value) → is_indexed_by schema p tokenizer ≡ true → (found : List ℕ) → AreShown (record { pred = p; over = Tokens tokenizer low high }) (listing schema graph) found → ascending nat_cmp found ≡ by_token_range graph p tokenizer low high
  range_found tokenizer low high indexed found a =
      found_are (record { pred = p; over = Tokens tokenizer low high }) (listing schema graph) found (by_token_range graph p tokenizer low high) a (range_ascend graph p tokenizer low high) (λ n s. to n s.0 s.2 (in_span (record { pred = p; over = Tokens tokenizer low high }) s.0 s.1)) (λ n h. from n (range_token graph p tokenizer low high n h))
    where
      lists : (t : IndexToken) → t.tokenizer ≡ tokenizer → listing schema graph (Index p t) ≡ nodes (subjects_where (has_token t) graph p)
      lists t e = token_lists t (ap (is_indexed_by schema p) e ∙ indexed)

      to : (n : ℕ) (key : Key) → has nat_cmp (shown key (listing schema graph key)) n ≡ true → IsInSpan (record { pred = p; over = Tokens tokenizer low high }) key → has nat_cmp (by_token_range graph p tokenizer low high) n ≡ true
      to n (Index q t) h i =
          let parts = then_parts (tokenizer_cmp t.tokenizer tokenizer) (value_place low high t.value) i.field in
          let made : t.tokenizer ≡ tokenizer = tokenizer_order.same t.tokenizer tokenizer parts.0 in
          let list : listing schema graph (Index q t) ≡ nodes (subjects_where (has_token t) graph p) = (λ j. listing schema graph (Index (i.pred j) t)) ∙ lists t made in
          token_range graph p tokenizer low high n
          (record {
            token = t;
            made = made;
            within = value_in low high t.value parts.1;
            there = (λ j. has nat_cmp (sym (only_nodes (subjects_where (has_token t) graph p)) j) n) ∙ ((λ j. has nat_cmp (filter_map node_in (sym list j)) n) ∙ h);
          })
      to n key h i = absurd (omega (arith, i.rank))

      from : (n : ℕ) → IsListedBetween graph p tokenizer low high n → Shows (record { pred = p; over = Tokens tokenizer low high }) (listing schema graph) n
      from n b = (
        Index p b.token,
        itself p (ordering_then (nat_cmp 2 2) (ordering_then (tokenizer_cmp b.token.tokenizer tokenizer) (value_place low high b.token.value)))
            ∙ (ap (λ (c : Ordering). ordering_then c (value_place low high b.token.value)) (ap (λ (t : Tokenizer). tokenizer_cmp t tokenizer) b.made ∙ tokenizer_order.itself tokenizer)
            ∙ value_there low high b.token.value b.within),
        (λ j. has nat_cmp (filter_map node_in (lists b.token b.made j)) n) ∙ ((λ j. has nat_cmp (only_nodes (subjects_where (has_token b.token) graph p) j) n) ∙ b.there),
      )

  -- ---- by numbers

  objects_listing : (d : Option PredDef) (m : ℕ) → is_so_by (λ def. def.count) d ≡ true → listing_by d graph (Count p m) ≡ (if nat_le 1 m then nodes (with_objects graph p m) else [])
  objects_listing None m e = absurd (cc)
  objects_listing (Some def) m e = ap (λ (b : Bool). if b && nat_le 1 m then nodes (with_objects graph p m) else []) e

  pointers_listing : (d : Option PredDef) (m : ℕ) → is_so_by (λ def. def.reverse) d ≡ true → is_so_by (λ def. def.count) d ≡ true → listing_by d graph (RCount p m) ≡ (if nat_le 1 m then with_subjects graph p m else [])
  pointers_listing None m e f = absurd (cc)
  pointers_listing (Some def) m e f = λ j. if e j && (f j && nat_le 1 m) then with_subjects graph p m else []

  -- a node is listed by its number
  numbered : (list : List Posting) (m n number : ℕ) → has posting_cmp list (Uid n) ≡ ((number == m) && nat_le 1 m) → has nat_cmp (filter_map node_in (if nat_le 1 m then list else [])) n ≡ ((number == m) && nat_le 1 m)
  numbered list m n number e = by (nat_le 1 m) e
    where
      none : (a : Bool) → false ≡ (a && false)
      none true = refl
      none false = refl

      by : (v : Bool) → has posting_cmp list (Uid n) ≡ ((number == m) && v) → has nat_cmp (filter_map node_in (if v then list else [])) n ≡ ((number == m) && v)
      by true f = nodes_among list n ∙ f
      by false f = none (number == m)

  -- the number of the node lies between the ends, and is listed
  is_found : (reverse : Bool) (low : ℕ) (high : Option ℕ) (m n : ℕ) → ((number_of graph p reverse n == m) && nat_le 1 m) ≡ true → (nat_le low m && is_number_up_to high m) ≡ true → has nat_cmp (by_count graph p reverse low high) n ≡ true
  is_found reverse low high m n e f =
      let same : m ≡ number_of graph p reverse n = sym (eqb-true (number_of graph p reverse n) m (left_of (number_of graph p reverse n == m) (nat_le 1 m) e)) in
      by_count_are graph p reverse low high n
      ∙ both (has_number graph p reverse low high n) (nat_le 1 (number_of graph p reverse n)) ((λ j. nat_le low (sym same j) && is_number_up_to high (sym same j)) ∙ f) ((λ j. nat_le 1 (sym same j)) ∙ right_of (number_of graph p reverse n == m) (nat_le 1 m) e)

  record IsNumbered (reverse : Bool) (low : ℕ) (high : Option ℕ) (n : ℕ) : Type 0 where
    within : (nat_le low (number_of graph p reverse n) && is_number_up_to high (number_of graph p reverse n)) ≡ true
    there : ((number_of graph p reverse n == number_of graph p reverse n) && nat_le 1 (number_of graph p reverse n)) ≡ true

  of_found : (reverse : Bool) (low : ℕ) (high : Option ℕ) (n : ℕ) → has nat_cmp (by_count graph p reverse low high) n ≡ true → IsNumbered reverse low high n
  of_found reverse low high n h =
      let number = number_of graph p reverse n in
      let is : (has_number graph p reverse low high n && nat_le 1 number) ≡ true = sym (by_count_are graph p reverse low high n) ∙ h in
      record { within = left_of (has_number graph p reverse low high n) (nat_le 1 number) is; there = both (number == number) (nat_le 1 number) (eq-eqb number number refl) (right_of (has_number graph p reverse low high n) (nat_le 1 number) is) }

  pub objects_found : (low : ℕ) (high : Option ℕ) → has_numbers schema p false ≡ true → (found : List ℕ) → AreShown (record { pred = p; over = Objects low high }) (listing schema graph) found → ascending nat_cmp found ≡ by_count graph p false low high
  objects_found low high counted found a =
      found_are (record { pred = p; over = Objects low high }) (listing schema graph) found (by_count graph p false low high) a (by_count_ascend graph p false low high) (λ n s. to n s.0 s.2 (in_span (record { pred = p; over = Objects low high }) s.0 s.1)) (λ n h. from n (of_found false low high n h))
    where
      listed : (m n : ℕ) → has nat_cmp (filter_map node_in (listing schema graph (Count p m))) n ≡ ((length (objects graph p n) == m) && nat_le 1 m)
      listed m n = (λ j. has nat_cmp (filter_map node_in (objects_listing (definition_of schema p) m counted j)) n) ∙ numbered (nodes (with_objects graph p m)) m n (length (objects graph p n)) (among_nodes (with_objects graph p m) n ∙ with_objects_are graph p m n)

      to : (n : ℕ) (key : Key) → has nat_cmp (shown key (listing schema graph key)) n ≡ true → IsInSpan (record { pred = p; over = Objects low high }) key → has nat_cmp (by_count graph p false low high) n ≡ true
      to n (Count q m) h i = is_found false low high m n (sym (listed m n) ∙ ((λ j. has nat_cmp (filter_map node_in (listing schema graph (Count (sym i.pred j) m))) n) ∙ h)) (number_in low high m i.field)
      to n key h i = absurd (omega (arith, i.rank))

      from : (n : ℕ) → IsNumbered false low high n → Shows (record { pred = p; over = Objects low high }) (listing schema graph) n
      from n is =
          let number = number_of graph p false n in
          (Count p number, itself p (ordering_then (nat_cmp 4 4) (number_place low high number)) ∙ number_there low high number is.within, listed number n ∙ is.there)

  pub pointers_found : (low : ℕ) (high : Option ℕ) → has_numbers schema p true ≡ true → (found : List ℕ) → AreShown (record { pred = p; over = Pointers low high }) (listing schema graph) found → ascending nat_cmp found ≡ by_count graph p true low high
  pointers_found low high counted found a =
      found_are (record { pred = p; over = Pointers low high }) (listing schema graph) found (by_count graph p true low high) a (by_count_ascend graph p true low high) (λ n s. to n s.0 s.2 (in_span (record { pred = p; over = Pointers low high }) s.0 s.1)) (λ n h. from n (of_found true low high n h))
    where
      listed : (m n : ℕ) → has nat_cmp (filter_map node_in (listing schema graph (RCount p m))) n ≡ ((length (subjects_of graph p (Uid n)) == m) && nat_le 1 m)
      listed m n =
          (λ j. has nat_cmp (filter_map node_in (pointers_listing (definition_of schema p) m (left_of (has_reverse schema p) (has_count schema p) counted) (right_of (has_reverse schema p) (has_count schema p) counted) j)) n)
          ∙ numbered (with_subjects graph p m) m n (length (subjects_of graph p (Uid n))) (with_subjects_are graph p m (Uid n))

      to : (n : ℕ) (key : Key) → has nat_cmp (shown key (listing schema graph key)) n ≡ true → IsInSpan (record { pred = p; over = Pointers low high }) key → has nat_cmp (by_count graph p true low high) n ≡ true
      to n (RCount q m) h i = is_found true low high m n (sym (listed m n) ∙ ((λ j. has nat_cmp (filter_map node_in (listing schema graph (RCount (sym i.pred j) m))) n) ∙ h)) (number_in low high m i.field)
      to n key h i = absurd (omega (arith, i.rank))

      from : (n : ℕ) → IsNumbered true low high n → Shows (record { pred = p; over = Pointers low high }) (listing schema graph) n
      from n is =
          let number = number_of graph p true n in
          (RCount p number, itself p (ordering_then (nat_cmp 5 5) (number_place low high number)) ∙ number_there low high number is.within, listed number n ∙ is.there)

  -- ---- one list

  pointers_of : (d : Option PredDef) (o : ℕ) → is_so_by (λ def. def.reverse) d ≡ true → listing_by d graph (Reverse p o) ≡ nodes (subjects_of graph p (Uid o))
  pointers_of None o e = absurd (cc)
  pointers_of (Some def) o e = ap (λ (b : Bool). if b then nodes (subjects_of graph p (Uid o)) else []) e

  -- what the key of a node that is pointed to lists
  pub reverse_lists : (o : ℕ) → has_reverse schema p ≡ true → listing schema graph (Reverse p o) ≡ nodes (subjects_of graph p (Uid o))
  reverse_lists o e = pointers_of (definition_of schema p) o e

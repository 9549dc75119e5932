-- The records of a history, which stand apart from its entries in memory.
use Rattle.std.proofs.Common.{◌≡◌, ℕ, ◌+◌, ◌≤◌, List, [], ◌∷◌, ◌++◌, length, get_or, take, refl, ap, sym, ◌∙◌, arith}
use Rattle.std.proofs.Math.ListN.{get_or-append}
use Rattle.std.proofs.Math.Seq.{get_or-append_seam, take-length}
use Rattle.std.proofs.lemmas.List.{append-nil, take_more}
use Rattle.dg_keys.specs.declared.record.Record.{Record}
use Rattle.dg_zero.specs.declared.chain.Chain.{Chain, Spent, After'}
use Rattle.dg_zero.specs.declared.chain.What.{What}
use Rattle.dg_zero.specs.declared.chain.What.TheVariants as whats
use Rattle.dg_zero.specs.declared.entry.Entry.{Entry}
use Rattle.dg_zero.specs.Chains.{no_record, count_of, event_of, recorded, and_kept, entries_of}
use Rattle.dg_zero.specs.Records.{record_of, records}
use Rattle.dg_zero.specs.States.{and_entry}
use Rattle.dg_zero.proofs.Histories.{records_push}
use Rattle.dg_zero.proofs.SpentTimestamps.{records_spent}

-- ---- one entry

-- an entry without a record is the same with any
pub same_event : (h : List Entry) (r s : Record) (what : What) → count_of what ≡ 0 → event_of h r what ≡ event_of h s what
same_event h r s (whats.Commit made) e = absurd (cc)
same_event h r s (whats.Alter altered) e = absurd (cc)
same_event h r s what e = refl

-- what an entry adds to the records before it
more_records : (rs : List Record) (h : List Entry) (n : ℕ) (what : What) → n + count_of what ≤ length rs → take n rs ++ record_of (event_of h (get_or rs n no_record) what) ≡ take (n + count_of what) rs
more_records rs h n (whats.Commit made) le = sym (take_more rs n no_record (omega (arith, le)))
more_records rs h n (whats.Alter altered) le = sym (take_more rs n no_record (omega (arith, le)))
more_records rs h n what le = append-nil (take n rs) ∙ ap (λ (m : ℕ). take m rs) (plain n)
  where
    plain : (n : ℕ) → n ≡ n + 0
    plain n = omega arith

-- the records of a chain's entries are the first ones that stand apart
pub records_taken : (rs : List Record) (chain : Chain) → recorded chain ≤ length rs → records (entries_of rs chain) ≡ take (recorded chain) rs
records_taken rs (Spent n) le = records_spent n
records_taken rs (After' place before kept) le =
    let h = entries_of rs before in
    records_push h (record { author = kept.author; event = event_of h (get_or rs (recorded before) no_record) kept.what })
    ∙ (ap (λ (us : List Record). us ++ record_of (event_of h (get_or rs (recorded before) no_record) kept.what)) (records_taken rs before (omega (arith, le)))
    ∙ more_records rs h (recorded before) kept.what le)

-- where all are counted, they are all of them
pub records_are : (rs : List Record) (chain : Chain) → recorded chain ≡ length rs → records (entries_of rs chain) ≡ rs
records_are rs chain e = records_taken rs chain (omega (arith, e)) ∙ (ap (λ (n : ℕ). take n rs) e ∙ take-length rs)

-- more records change no entry
pub entries_more : (rs more : List Record) (chain : Chain) → recorded chain ≤ length rs → entries_of (rs ++ more) chain ≡ entries_of rs chain
entries_more rs more (Spent n) le = refl
entries_more rs more (After' place before kept) le =
    let rest : entries_of (rs ++ more) before ≡ entries_of rs before = entries_more rs more before (omega (arith, le)) in
    let same : event_of (entries_of rs before) (get_or (rs ++ more) (recorded before) no_record) kept.what ≡ event_of (entries_of rs before) (get_or rs (recorded before) no_record) kept.what = one (entries_of rs before) (recorded before) kept.what le in
    ap (λ (h : List Entry). and_kept h (get_or (rs ++ more) (recorded before) no_record) kept) rest ∙ (λ i. entries_of rs before ++ (record { author = kept.author; event = same i }) ∷ [])
  where
    one : (h : List Entry) (n : ℕ) (what : What) → n + count_of what ≤ length rs → event_of h (get_or (rs ++ more) n no_record) what ≡ event_of h (get_or rs n no_record) what
    one h n (whats.Commit made) le = ap (λ (r : Record). event_of h r (whats.Commit made)) (get_or-append rs more no_record n (omega (arith, le)))
    one h n (whats.Alter altered) le = ap (λ (r : Record). event_of h r (whats.Alter altered)) (get_or-append rs more no_record n (omega (arith, le)))
    one h n what le = refl

-- one more record behind a chain with one more entry
pub appended : (rs after : List Record) (chain new : Chain) (author : ℕ) (what : What) (written : Record) → recorded chain ≡ length rs → after ≡ rs ++ written ∷ [] → ((us : List Record) → entries_of us new ≡ and_entry (entries_of us chain) author (event_of (entries_of us chain) (get_or us (recorded chain) no_record) what)) → entries_of after new ≡ and_entry (entries_of rs chain) author (event_of (entries_of rs chain) written what)
appended rs after chain new author what written counted e put =
    let older : entries_of after chain ≡ entries_of rs chain = ap (λ (us : List Record). entries_of us chain) e ∙ entries_more rs (written ∷ []) chain (omega (arith, counted)) in
    let read : get_or after (recorded chain) no_record ≡ written = (λ i. get_or (e i) (counted i) no_record) ∙ get_or-append_seam rs written [] no_record in
    put after ∙ (λ i. and_entry (older i) author (event_of (older i) (read i) what))

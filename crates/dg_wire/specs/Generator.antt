-- A script made from a seed and a number of nodes: a schema, the nodes in batches, and a query.
use Rattle.std.specs.Prelude.{ℕ, zero, suc, ◌+◌, ◌-◌, ◌*◌, ◌/◌, min, List, [], ◌∷◌, ◌++◌, codes, false}
use Rattle.std.specs.List.{join_with_byte}
use Rattle.std.specs.Fmt.{decimal, digits}
use Rattle.dg_wire.specs.declared.request.Request.{Request}
use Rattle.dg_wire.specs.declared.request.Request.TheVariants.{Alter, Begin, Mutate, Query, Commit, Discard, Roll}
use Rattle.dg_wire.specs.Draws.{drawn}

-- the schema
abbrev pub schema : List ℕ
schema = codes "name: string @index(exact) .\nage: int @index(int) .\nfriend: [uid] @reverse @count ."

-- the query at the end
abbrev pub question : List ℕ
question = codes "{ q(func: eq(age, 7), first: 5) { uid name count(friend) } }"

-- the line of a node's name
abbrev pub name_line : ℕ → ℕ → List ℕ
name_line node name = codes "<0x" ++ (digits 16 false node ++ (codes "> <name> \"n" ++ (decimal name ++ codes "\" .")))

-- the line of a node's age
abbrev pub age_line : ℕ → ℕ → List ℕ
age_line node age = codes "<0x" ++ (digits 16 false node ++ (codes "> <age> \"" ++ (decimal age ++ codes "\" .")))

-- the line of a node's friend
abbrev pub friend_line : ℕ → ℕ → List ℕ
friend_line node friend = codes "<0x" ++ (digits 16 false node ++ (codes "> <friend> <0x" ++ (digits 16 false friend ++ codes "> .")))

-- the three lines of a node, line feeds between
abbrev pub node_text : ℕ → ℕ → ℕ → ℕ → List ℕ
node_text node name age friend = join_with_byte 10 (name_line node name ∷ age_line node age ∷ friend_line node friend ∷ [])

-- the lines of the node behind so many, each of which makes three draws
abbrev pub node_behind : ℕ → ℕ → ℕ → List ℕ
node_behind seed size done = node_text (done + 1) (drawn seed (3 * done) 1000) (drawn seed (3 * done + 1) 100) (drawn seed (3 * done + 2) size + 1)

-- the lines of each of so many nodes, behind others
abbrev pub nodes_behind : ℕ → ℕ → ℕ → ℕ → List (List ℕ)
nodes_behind seed size done zero = []
nodes_behind seed size done (suc n) = nodes_behind seed size done n ++ (node_behind seed size (done + n) ∷ [])

-- what stands in front of a node behind so many of its batch
abbrev pub joint : ℕ → List ℕ
joint zero = []
joint (suc n) = 10 ∷ []

-- how many nodes the batch behind so many nodes has
abbrev pub batch_len : ℕ → ℕ → ℕ
batch_len size done = min 100 (size - done)

-- the body of that batch
abbrev pub batch_body : ℕ → ℕ → ℕ → List ℕ
batch_body seed size done = join_with_byte 10 (nodes_behind seed size done (batch_len size done))

-- the requests of that batch
abbrev pub batch : ℕ → ℕ → ℕ → List Request
batch seed size done = Begin 1 ∷ Mutate 1 (batch_body seed size done) ∷ Commit 1 ∷ Roll (codes "name") ∷ []

-- the requests of so many batches, behind so many nodes
abbrev pub batches : ℕ → ℕ → ℕ → ℕ → List Request
batches seed size done zero = []
batches seed size done (suc n) = batch seed size done ++ batches seed size (done + batch_len size done) n

-- how many batches there are
abbrev pub batch_count : ℕ → ℕ
batch_count size = (size + 99) / 100

-- the requests behind the batches
abbrev pub ending : List Request
ending = Begin 1 ∷ Query 1 question ∷ Discard 1 ∷ []

-- the requests of the script
abbrev pub generated : ℕ → ℕ → List Request
generated seed size = Alter schema ∷ (batches seed size 0 (batch_count size) ++ ending)

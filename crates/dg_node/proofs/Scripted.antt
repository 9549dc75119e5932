-- How many requests a generated script has.
use Rattle.std.proofs.Common.{◌≡◌, ◌≤◌, ◌+◌, ◌*◌, ◌/◌, ℕ, zero, suc, List, length, length-append, ◌∙◌, arith}
use Rattle.dg_wire.specs.Generator.{generated, batch, batches, batch_len, batch_count, ending}

-- a batch has four requests
batches_length : (seed size at n : ℕ) → length (batches seed size at n) ≡ 4 * n
batches_length seed size at zero = omega arith
batches_length seed size at (suc n) =
    let one = length-append (batch seed size at) (batches seed size (at + batch_len size at) n) in
    let more = batches_length seed size (at + batch_len size at) n in
    omega (arith, one, more)

-- a script of at most so many nodes has few requests
pub few_requests : (seed size : ℕ) → size ≤ 10000 → length (generated seed size) ≤ 404
few_requests seed size few =
    let whole = length-append (batches seed size 0 (batch_count size)) ending in
    let all = batches_length seed size 0 (batch_count size) in
    let count : batch_count size ≤ 100 = omega arith in
    omega (arith, whole, all, count)

use Rattle.std.proofs.Common.{◌≡◌, flat_map, map, take}
use Rattle.dg_keys.specs.declared.key.Key.{Key}
use Rattle.dg_edges.specs.Filing.{filed_at}
use Rattle.dg_edges.specs.Lists.{Lists}
use Rattle.dg_edges.proofs.filing.filings_of.Given as goal

abbrev pub invariant-loop-place : goal.invariant-loop-place
invariant-loop-place l = record {
  before : (f : Key → Lists) → l.lists ≡ map f l.keys → l.found.before.items ≡ flat_map (λ k. filed_at l.schema k (f k).before) (take l.place l.keys);
  after : (f : Key → Lists) → l.lists ≡ map f l.keys → l.found.after.items ≡ flat_map (λ k. filed_at l.schema k (f k).after) (take l.place l.keys);
}

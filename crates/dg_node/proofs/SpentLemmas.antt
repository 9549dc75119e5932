-- The machine after transactions that changed nothing: the empty one, with a later timestamp next.
use Rattle.std.proofs.Common.{◌≡◌, ℕ, suc, ◌-◌, ◌≤◌, ◌<◌, ◌^◌, List, [], refl, ap, sym, subst, arith}
use Rattle.dg_zero.specs.declared.entry.Entry.{Entry}
use Rattle.dg_zero.specs.Pasts.{spent}
use Rattle.dg_zero.specs.States.{Zero}
use Rattle.dg_zero.specs.Worlds.{World}
use Rattle.dg_zero.proofs.Kept.{none_active}
use Rattle.dg_zero.proofs.SpentTimestamps.{none_spent, world_at_spent, oracle_at, spent_keeps}
use Rattle.dg_node.specs.declared.engine.Slot.{Slot}
use Rattle.dg_node.specs.Kept.{IsKept, opened_of}
use Rattle.dg_node.specs.Machine.{empty_from}
use Rattle.dg_node.specs.State.{alter_of, asked_of, StandsFor}
use Rattle.dg_node.proofs.Standing.{StandBeside, is_beside}

module _ (groups : ℕ) (some : 1 ≤ groups) (n : ℕ) (lt : n < 2 ^ 62) where
  abbrev zero_spent : Zero
  zero_spent = record { groups = groups; history = spent n }

  spent_has_all : StandBeside zero_spent [] (empty_from groups (suc n))
  spent_has_all =
      let kept = spent_keeps groups some n lt in
      record {
        groups_are = refl;
        next_is = kept.next_is;
        uid_is = kept.uid_is;
        alters_are = sym (none_spent (λ (e : Entry). alter_of e.event) (λ start. refl) (λ start. refl) n);
        commits_are = sym (none_spent (λ (e : Entry). asked_of e.event) (λ start. refl) (λ start. refl) n);
        sessions_are = refl;
        keys_are = kept.commits_are;
        drawn = tt;
        graphs_are = λ at. ap (λ (w : World). w.graph) (sym (world_at_spent n at));
      }

  pub spent_stands : StandsFor (record { zero = zero_spent; opened = [] }) (empty_from groups (suc n))
  spent_stands = sym (is_beside zero_spent [] (empty_from groups (suc n)) spent_has_all)

  pub spent_is_kept : IsKept zero_spent []
  spent_is_kept =
      let kept = spent_keeps groups some n lt in
      record {
        legal = kept.legal;
        active_are = none_active groups (oracle_at (suc n)) 1 [] [] [] (spent n) 0 kept refl;
        apart = tt;
        full = tt;
        each = tt;
      }

-- an engine that begins with this timestamp
pub starting_kept : (groups next : ℕ) (z : Zero) (slots : List Slot) → 1 ≤ groups → 1 ≤ next → next ≤ 2 ^ 62 → z ≡ record { groups = groups; history = spent (next - 1) } → slots ≡ [] → IsKept z slots
starting_kept groups next z slots some first last zero_is opened_is =
    let below : next - 1 < 2 ^ 62 = omega (arith, first, last) in
    rw (zero_is, opened_is) (spent_is_kept groups some (next - 1) below)

pub starting_stands : (groups next : ℕ) (z : Zero) (slots : List Slot) → 1 ≤ groups → 1 ≤ next → next ≤ 2 ^ 62 → z ≡ record { groups = groups; history = spent (next - 1) } → slots ≡ [] → StandsFor (record { zero = z; opened = opened_of slots }) (empty_from groups next)
starting_stands groups next z slots some first last zero_is opened_is =
    let back : suc (next - 1) ≡ next = omega (arith, first) in
    let below : next - 1 < 2 ^ 62 = omega (arith, first, last) in
    rw (zero_is, opened_is) (subst (λ (m : ℕ). StandsFor (record { zero = record { groups = groups; history = spent (next - 1) }; opened = [] }) (empty_from groups m)) back (spent_stands groups some (next - 1) below))

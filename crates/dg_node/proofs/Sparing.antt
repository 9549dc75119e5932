-- The table of sessions after a begin for which memory was wanting, and after an alter.
use Rattle.std.proofs.Common.{◌≡◌, ℕ, true, List, [], ◌∷◌, ◌++◌, Option, Some, None, refl, ap, subst, sym, ◌∙◌, append_assoc}
use Rattle.std.specs.Prelude.{map}
use Rattle.std.proofs.lemmas.List.{append-nil, map-append}
use Rattle.dg_wire.specs.declared.request.Request.TheVariants.{Begin}
use Rattle.dg_zero.specs.declared.entry.Entry.{Entry}
use Rattle.dg_zero.specs.Counters.{Started, active, starts_of}
use Rattle.dg_zero.specs.Legal.{IsLegal}
use Rattle.dg_zero.specs.States.{Zero}
use Rattle.dg_txn.specs.Own.{Transaction}
use Rattle.dg_node.specs.declared.engine.Slot.{Slot}
use Rattle.dg_node.specs.Kept.{IsKept}
use Rattle.dg_node.specs.Machine.{Machine, Session}
use Rattle.dg_node.specs.Owning.{AreAtRest}
use Rattle.dg_node.specs.Sessions.{own_session, own_start, Adds, Draws, Drops, SparesBegin, Alters}
use Rattle.dg_node.specs.State.{machine_beside, Leads}
use Rattle.dg_node.specs.Steps.{Spares}
use Rattle.dg_node.proofs.Alone.{met_alone, legal_alone}
use Rattle.dg_node.proofs.Between.{ended_between}
use Rattle.dg_node.proofs.OneAmong.{all_joined}
use Rattle.dg_node.proofs.Slots.{held_by, sessions_of, starts_in, all_kept, leads_beside}

-- ---- a begin for which memory was wanting

adds_both : (author : ℕ) (z y w : Zero) → Adds author z y → Adds author y w → Adds author z w
adds_both author z y w a b = record {
  groups_are = b.groups_are ∙ a.groups_are;
  entries = a.entries ++ b.entries;
  history_is = b.history_is ∙ (ap (λ (h : List Entry). h ++ b.entries) a.history_is ∙ append_assoc z.history a.entries b.entries);
  own = all_joined (λ (e : Entry). e.author ≡ author) a.entries b.entries a.own b.own;
}

same_starts : (sid : ℕ) (drew : Option ℕ) (z y w : Zero) → IsLegal y.groups y.history → Draws 0 sid drew z y → Drops 0 drew y w → active w.history ≡ active z.history
same_starts sid None z y w legal d e = e.starts ∙ (d.starts ∙ append-nil (active z.history))
same_starts sid (Some start) z y w legal d e = e.starts ∙ (ended_between y.groups y.history legal (active z.history) [] (record { start = start; author = 0 }) d.starts ∙ append-nil (active z.history))

module _ (sid : ℕ) (z w : Zero) (slots : List Slot) (s : SparesBegin (λ n. true) 0 sid z w) where
  drawn : Draws 0 sid s.drew z s.mid
  drawn = met_alone z s.mid (Draws 0 sid s.drew) s.draws

  dropped : Drops 0 s.drew s.mid w
  dropped = met_alone s.mid w (Drops 0 s.drew) s.drops

  pub spared_kept : IsLegal w.groups w.history → IsKept z slots → IsKept w slots
  spared_kept legal k =
      all_kept z w (adds_both 0 z s.mid w drawn.adds dropped.adds) legal slots k
      (same_starts sid s.drew z s.mid w (legal_alone s.mid w (Drops 0 s.drew) s.drops) drawn dropped)

  pub spared_leads : Leads (held_by z slots) (λ m n. Spares (Begin sid) m n) (held_by w slots)
  spared_leads =
      let ss = sessions_of slots in
      leads_beside z w slots slots (λ m n. Spares (Begin sid) m n) ss ss refl refl
      (subst (λ (n : Machine). Spares (Begin sid) (machine_beside z ss) n) (sym (dropped.machine ss)) (drawn.machine ss))

-- ---- an alter

own_starts : (sid : ℕ) (t : Option Transaction) → map (λ (s : Session). s.start) (own_session sid t) ≡ starts_of (own_start 0 t)
own_starts sid None = refl
own_starts sid (Some txn) = refl

starts_same : (slots : List Slot) → map (λ (s : Session). s.start) (sessions_of slots) ≡ starts_of (starts_in slots)
starts_same [] = refl
starts_same (s ∷ slots) =
    map-append (λ (t : Session). t.start) (own_session s.sid s.txn) (sessions_of slots)
    ∙ ((λ i. own_starts s.sid s.txn i ++ starts_same slots i)
    ∙ sym (map-append (λ (t : Started). t.start) (own_start 0 s.txn) (starts_in slots)))

module _ (z w : Zero) (slots : List Slot) (step : Machine → Machine → Type 0) (a : Alters 0 step z w) where
  pub altered_kept : IsLegal w.groups w.history → IsKept z slots → IsKept w slots
  altered_kept legal k = all_kept z w a.adds legal slots k a.starts

  pub altered_leads : AreAtRest z.history → IsKept z slots → Leads (held_by z slots) step (held_by w slots)
  altered_leads rest k = leads_beside z w slots slots step _ _ refl refl (a.machine rest (sessions_of slots) (starts_same slots ∙ ap starts_of (sym k.active_are)))

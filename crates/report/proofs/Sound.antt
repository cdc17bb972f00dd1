-- A delivery leaves a store sound: well formed, its kept facts the saturation. Assumes nothing.
use Prim.Native.Nat.{ℕ, zero, suc}
use mathlib.Core.List.{List, [], ◌∷◌}
use Rattle.spec.specs.declared.Tally.{Tally}
use Rattle.spec.specs.declared.Triple.{Triple}
use Rattle.spec.specs.Refusals.{first_refusal}
use Rattle.spec.specs.Tables.{Tables, are_formed}
use Rattle.spec.specs.declared.Change.{Change}
use Rattle.spec.specs.declared.Change.TheVariants.{Addition, Withdrawal}
use Rattle.spec.specs.Updates.{update}
use Rattle.store.proofs.Laws.{Sound, update_sound}
use Rattle.spec.specs.Deliveries.{tally, tallied, run_entries, run_message, message_checks, conclude, deliver}
use Rattle.spec.specs.inside.Pairs.{progress}
use Rattle.spec.specs.Messages.{Message}
use Rattle.spec.specs.computed.Decoded.{read}

-- Entries each leave it so,
entries_sound : (d : Change) (ts : List Triple) (g : Tables × Tally) → Sound g.0 → Sound (run_entries (update d) ts g).0
unfolding run_entries
entries_sound d [] g G = G
entries_sound d (t ∷ ts) g G = let r = update d g.0 t in entries_sound d ts (r.1, tallied r.0 g.1) (update_sound d g.0 t G)

-- so do the four sections,
message_sound : (m : Message) (g : Tables × Tally) → Sound g.0 → Sound (run_message update m g).0
unfolding run_message
message_sound m g G =
    entries_sound Addition m.facts_added _
    (entries_sound Addition m.statements_added _
    (entries_sound Withdrawal m.facts_withdrawn _
    (entries_sound Withdrawal m.statements_withdrawn g G)))

-- and so does a delivery, refused or not.
conclude_sound : (n : ℕ) (m : Message) (T : Tables) → Sound T → Sound (conclude update n m T).1
unfolding conclude
conclude_sound zero m T G = message_sound m (progress T (tally 0 0 0)) G
conclude_sound (suc n) m T G = G

pub deliver_sound : (T : Tables) (bs : List ℕ) → Sound T → Sound (deliver T bs).1
unfolding deliver
deliver_sound T bs G = conclude_sound (first_refusal ((1, are_formed T) ∷ message_checks bs)) (read bs) T G

-- Slots that are deleted one after another, and slots that were taken out and are put back under their ids.
use Rattle.std.specs.Prelude.{ℕ, ◌-◌, ◌==◌, if◌then◌else◌, List, [], ◌∷◌, Option, Some, None, Result, Ok, Err, option_and_then, slice_get, slice_set}
use Rattle.std.specs.Option.{is_none}
use Rattle.kn_rules.specs.declared.slot.Slot.{Slot}
use Rattle.kn_rules.specs.declared.slot.Slot.TheVariants.{Kept, Derived, Deleted}
use Rattle.kn_rules.specs.Causes.{not_live}
use Rattle.kn_rules.specs.Entries.{origin_of}

-- a slot that is not deleted
abbrev pub standing_slot : Slot → Option Slot
standing_slot (Kept o c) = Some (Kept o c)
standing_slot (Derived place number) = Some (Derived place number)
standing_slot (Deleted o) = None

-- the slot of a live id; none where the id was not given or is deleted
abbrev pub slot_at : List Slot → ℕ → Option Slot
slot_at slots id = if id == 0 then None else option_and_then standing_slot (slice_get slots (id - 1))

-- the slots with that of an id deleted
abbrev pub without_slot : List Slot → ℕ → Option Slot → List Slot
without_slot slots id None = slots
without_slot slots id (Some slot) = slice_set slots (id - 1) (Deleted (origin_of slot))

-- Each id is deleted where it is live when its turn comes.
abbrev pub deleted_slots : List Slot → List ℕ → Result (List Slot) ℕ
deleted_slots slots [] = Ok slots
deleted_slots slots (id ∷ ids) = if is_none (slot_at slots id) then Err not_live else deleted_slots (without_slot slots id (slot_at slots id)) ids

-- the slots with one under an id, where the id was given
abbrev pub put : List Slot → ℕ → Slot → List Slot
put slots id slot = if id == 0 then slots else slice_set slots (id - 1) slot

-- the slots with those that were taken out under the first of the ids, the last first
abbrev pub restored : List Slot → List ℕ → List Slot → List Slot
restored slots ids [] = slots
restored slots [] (slot ∷ taken) = slots
restored slots (id ∷ ids) (slot ∷ taken) = put (restored slots ids taken) id slot

-- Scopes as the core tree has them.
use Rattle.std.proofs.Common.{◌≡◌, ℕ, ◌<◌, List, [], ◌∷◌, ◌++◌, length, get_or, take, sym, ap, ◌∙◌}
use Rattle.std.proofs.lemmas.List.{length-map, get_or-map, map_push, take-map}
use Rattle.sl_meaning.specs.Core.{no_slot}
use Rattle.grid_code.specs.declared.slot.Slot.{Slot}
use Rattle.core_codegen.specs.Slots.{slot_of, slots_of}

pub length_slots : (ss : List Slot) → length (slots_of ss) ≡ length ss
length_slots ss = length-map ss slot_of

pub slots_pushed : (ss ss' : List Slot) (s : Slot) → ss' ≡ ss ++ s ∷ [] → slots_of ss' ≡ slots_of ss ++ slot_of s ∷ []
slots_pushed ss ss' s h = ap slots_of h ∙ map_push slot_of ss s

pub slots_cut : (ss ss' : List Slot) (n : ℕ) → ss' ≡ take n ss → slots_of ss' ≡ take n (slots_of ss)
slots_cut ss ss' n h = ap slots_of h ∙ sym (take-map slot_of n ss)

pub slots_at : (ss : List Slot) (k : ℕ) (d : Slot) → k < length ss → get_or (slots_of ss) k no_slot ≡ slot_of (get_or ss k d)
slots_at ss k d h = get_or-map slot_of ss k d no_slot h

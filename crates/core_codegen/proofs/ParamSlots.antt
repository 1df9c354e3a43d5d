-- The slots of parameters, one after another.
use Rattle.std.proofs.Common.{◌≡◌, ℕ, ◌+◌, ◌<◌, List, [], ◌∷◌, ◌++◌, length, get_or, drop, map, sym, ap, ◌∙◌, append_assoc}
use Rattle.sl_ast.specs.declared.typed.ParamDecl.{ParamDecl}
use Rattle.sl_ast.specs.TypedView.{local_of}
use Rattle.grid_code.specs.declared.slot.Slot.{Slot}
use Rattle.sl_meaning.specs.Core as C
use Rattle.sl_meaning.specs.Lowered.{slots}
use Rattle.core_codegen.specs.Slots.{slot_of, slots_of}
use Rattle.core_codegen.proofs.Slots.{slots_pushed}
use Rattle.core_codegen.proofs.ValueRegisters.{next_left}

pub params_next : (params : List ParamDecl) (i : ℕ) (p : ParamDecl) (vs vs' : List Slot) (s : Slot) → i < length params → p ≡ get_or params i p → slot_of s ≡ C.slot p.uniform p.kind → vs' ≡ vs ++ s ∷ [] →
    slots_of vs ++ slots (map local_of (drop i params)) ≡ slots (map local_of params) → slots_of vs' ++ slots (map local_of (drop (i + 1) params)) ≡ slots (map local_of params)
params_next params i p vs vs' s lt is same h left =
    let rest = slots (map local_of (drop (i + 1) params)) in
    ap (λ l. l ++ rest) (slots_pushed vs vs' s h) ∙ append_assoc (slots_of vs) (slot_of s ∷ []) rest ∙ ap (λ x. slots_of vs ++ (x ∷ rest)) same ∙
    ap (λ l. slots_of vs ++ slots (map local_of l)) (sym (next_left params i p lt is)) ∙ left

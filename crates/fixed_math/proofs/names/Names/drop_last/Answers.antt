-- What is left is the table of the names in front, since the map has for the last text what it had before.
use Rattle.std.proofs.Common.{ℕ, List, ◌<◌, ◌∷◌, [], take, length, ◌∙◌, ap, sym, subst, IsSome, get_or}
use Rattle.std.proofs.lemmas.List.{map-append}
use Rattle.fixed_math.specs.NameTable.{texts_of, KnowsBefore}
use Rattle.fixed_math.specs.Names.{last_place}
use Rattle.fixed_math.specs.declared.names.Name.{Name}
use Rattle.fixed_math.proofs.LastPlaces.{last_has_place, found_after_drop, known_of_last, known_in_front}
use Rattle.fixed_math.proofs.names.Names.drop_last.Goals as goal

pub restore-requires : goal.restore-requires
restore-requires c =
    let text = c.in-Some.name.text.now in
    let front = texts_of c.pop.new.self.items in
    let texts = ap texts_of c.in-Some.ensures.items ∙ map-append (λ n. n.text.now) c.pop.new.self.items (c.in-Some.name ∷ []) in
    subst IsSome (sym (c.self.invariant.finds text ∙ ap (last_place text) texts)) (last_has_place front text)

pub invariant_of-self : goal.invariant_of-self
invariant_of-self c =
    let front = c.pop.new.self.items in
    let texts = ap texts_of c.in-Some.ensures.items ∙ map-append (λ n. n.text.now) front (c.in-Some.name ∷ []) in
    let Known = λ (l : List Name). (i : ℕ) (d : Name) → i < length l → KnowsBefore (take i l) (get_or l i d) in
    let known = known_of_last front c.in-Some.name (subst Known c.in-Some.ensures.items c.self.invariant.restores) in
    let found = λ (q : List ℕ). found_after_drop (texts_of front) c.in-Some.name.text.now q _ _ _ known (c.self.invariant.finds q ∙ ap (last_place q) texts) (c.restore.ensures q) in
    record { finds = found; restores = rw c.pop.ensures.rest (known_in_front c.self.inside.names.items _ c.self.invariant.restores) }

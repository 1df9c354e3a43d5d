-- The new name is found at its place, which is the length so far, and knows the place that the map had for its text.
use Rattle.std.proofs.Common.{◌≡◌, ◌++◌, ◌∷◌, [], cond, Some, length, ◌∙◌, ap, arith}
use Rattle.std.specs.Str.{bytes_eq}
use Rattle.std.proofs.lemmas.List.{map-append, length-map}
use Rattle.std.proofs.lemmas.Map.Text.{btree_map_updates_str}
use Rattle.fixed_math.specs.NameTable.{place_in, texts_of}
use Rattle.fixed_math.specs.declared.names.Name.{Name}
use Rattle.fixed_math.proofs.LastPlaces.{found_after_push, known_after_push}
use Rattle.fixed_math.proofs.names.Names.push.Goals as goal

pub invariant_of-self-2 : goal.invariant_of-self-2
invariant_of-self-2 c =
    let names = c.self.inside.names.items in
    let text = c.as_str-text.result.now in
    let new : Name = record { text = c.as_str-text.result; before = c.in_ok-before.before } in
    let items : c.push_reserved.new.self.items ≡ names ++ new ∷ [] = c.push_reserved.ensures.items ∙ ap (λ l. l ++ new ∷ []) c.reserve.ensures.items in
    let texts : texts_of c.push_reserved.new.self.items ≡ texts_of names ++ text ∷ [] = ap texts_of items ∙ map-append (λ n. n.text.now) names (new ∷ []) in
    let place : c.len.result ≡ length (texts_of names) = rw (length-map names (λ n. n.text.now)) (omega arith) in
    let updated = btree_map_updates_str text c.self.inside.last c.insert.new.self _ c.in_ok-before.ensures.updates in
    record { finds = λ q. rw texts (found_after_push (texts_of names) text q _ _ (c.self.invariant.finds q) (updated q ∙ ap (λ n. cond (bytes_eq text q) (Some n) (place_in c.self.inside.last q)) place)); restores = rw items (known_after_push names new c.self.invariant.restores (c.in_ok-before.ensures.old ∙ c.self.invariant.finds text)) }

-- The new name is found at its place, which is the number of names so far.
use Rattle.std.proofs.Common.{◌≡◌, ◌∙◌, ap, sym, arith, ℕ, List, ◌<◌, ◌+◌, ◌++◌, ◌∷◌, [], cond, suc, Some, length, take, string_bytes, slice_index_or}
use Rattle.std.specs.Str.{bytes_eq}
use Rattle.std.specs.BTreeMap.{get_by_text}
use Rattle.std.proofs.Math.Seq.{take-suc}
use Rattle.std.proofs.lemmas.List.{map-append, length-map, length-take-le}
use Rattle.std.proofs.lemmas.Map.Text.{btree_map_updates_text}
use Rattle.fixed_math.specs.Names.{last_place}
use Rattle.fixed_math.proofs.LastPlaces.{found_after_push}
use Rattle.scene.specs.Seats.{names_of}
use Rattle.scene.proofs.variables.places_of.Goals as goal

pub loop-k-preserved : goal.loop-k-preserved
loop-k-preserved c =
    let params = c.args.params.now in
    let k = c.loop-k.k in
    let p = c.index-params-k.result in
    let done = names_of (take k params) in
    let long : length done ≡ k = length-map (take k params) (λ q. q.name) ∙ length-take-le k params (omega (arith, c.loop-k-test.true)) in
    let names : names_of (take (k + 1) params) ≡ done ++ p.name ∷ [] =
    ap names_of (next params k p c.loop-k-test.true ∙ ap (λ q. take k params ++ q ∷ []) (sym c.index-params-k.is)) ∙ map-append (λ q. q.name) (take k params) (p ∷ []) in
    let key : string_bytes c.in_ok-name.name ≡ p.name = c.in_ok-name.ensures.ok ∙ c.as_str.ensures.value ∙ sym (ap (λ q. q.name) c.index-params-k.is) in
    let sets = btree_map_updates_text (string_bytes c.in_ok-name.name) c.loop-k.places c.insert.new.self _ c.in_ok-insert.ensures.updates in
    λ name. found_after_push done p.name name _ _ (c.loop-k.invariant name)
    (sets name ∙ ap (λ q. cond (bytes_eq q name) (Some k) (get_by_text c.loop-k.places name)) key
    ∙ ap (λ n. cond (bytes_eq p.name name) (Some n) (get_by_text c.loop-k.places name)) (sym long))
    ∙ sym (ap (last_place name) names)
  where
    next : {A : Type 0} (xs : List A) (k : ℕ) (d : A) → k < length xs → take (k + 1) xs ≡ take k xs ++ slice_index_or xs k d ∷ []
    next xs k d h = ap (λ n. take n xs) (one k) ∙ take-suc xs k d h
      where
        one : (k : ℕ) → k + 1 ≡ suc k
        one k = omega arith

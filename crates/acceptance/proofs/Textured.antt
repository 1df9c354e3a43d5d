-- The look-ups of a scene's uses, and the set that is made with what they name.
use Rattle.std.proofs.Common.{◌≡◌, ℕ, zero, suc, ◌<◌, List, [], ◌∷◌, length, map, get_or, Option, Some, refl, sym, ap, ◌∙◌, arith}
use Rattle.std.specs.Prelude.{slice_get}
use Rattle.std.specs.Option.{option_map}
use Rattle.std.proofs.lemmas.Option.{slice_get-map, slice_get-get_or}
use Rattle.std.proofs.lemmas.List.Elements.{All-nil, All-cons}
use Rattle.scene.specs.declared.uses.ShaderUse.{ShaderUse}
use Rattle.sl_ast.specs.declared.typed.Value.{Value}
use Rattle.sl_ast.specs.Textures.{texture_nodes}
use Rattle.sl_ast.specs.Typed.{Tree}
use Rattle.sl_ast.specs.TypedView.{tree_expr}
use Rattle.sl_look_ups.specs.declared.look_up.LookUp.{LookUp}
use Rattle.sl_look_ups.specs.Nodes.{nodes}
use Rattle.shader_binding.specs.Sets.{SetValue}
use Rattle.acceptance.specs.declared.read.ReadShader.{ReadShader}
use Rattle.acceptance.specs.declared.shaders.UsedShaders.{UsedShaders}
use Rattle.acceptance.specs.declared.textures.UsedTextures.{UsedTextures}
use Rattle.acceptance.specs.Textures.{ArePlaces, name_with, names_with, names_at, all_names, texture_names, entries_in}
use Rattle.acceptance.specs.Reading.{name_of, tree_read, named_use, ArePlaced, all_values, names_read, set_read}
use Rattle.acceptance.proofs.Places.{as_many, within}

-- ---- places of shaders
below : (read : List ReadShader) (ns : List ℕ) (uses : List ShaderUse) → map (slice_get (map name_of read)) ns ≡ map named_use uses → ArePlaces ns (length read)
below read [] uses h = All-nil (λ n. n < length read)
below read (n ∷ ns) [] h = absurd (cc h)
below read (n ∷ ns) (u ∷ us) h =
    let first : slice_get (map name_of read) n ≡ Some u.name = cc h in
    let rest : map (slice_get (map name_of read)) ns ≡ map named_use us = cc h in
    All-cons (λ m. m < length read) n ns (within read n u.name first) (below read ns us rest)

pub places_there : (uses : List ShaderUse) (shaders : UsedShaders) → ArePlaced uses shaders → ArePlaces shaders.of_use (length shaders.read)
places_there uses shaders placed = below shaders.read shaders.of_use uses placed

counted : (read : List ReadShader) (uses : List ShaderUse) (ns : List ℕ) → length ns ≡ length uses → length (all_values read uses ns) ≡ length ns
counted read [] [] h = refl
counted read [] (n ∷ ns) h = absurd (omega (arith, h))
counted read (u ∷ us) [] h = absurd (omega (arith, h))
counted read (u ∷ us) (n ∷ ns) h = ap suc (counted read us ns (omega (arith, h)))

pub places_counted : (uses : List ShaderUse) (shaders : UsedShaders) (bound : List (List Value)) → ArePlaced uses shaders → bound ≡ all_values shaders.read uses shaders.of_use
    → length bound ≡ length shaders.of_use
places_counted uses shaders bound placed is =
    ap length is ∙ counted shaders.read uses shaders.of_use (as_many (map name_of shaders.read) shaders.of_use uses placed)

-- ---- names by places
named_nodes : (vs : List Value) (found : List LookUp) → map (λ l. name_with vs (tree_expr l.name.now)) found ≡ map (λ n. name_with vs n.name) (nodes found)
named_nodes vs [] = refl
named_nodes vs (l ∷ ls) = ap (λ r. name_with vs (tree_expr l.name.now) ∷ r) (named_nodes vs ls)

-- what the look-ups that are found name is what those of the tree name
pub names_found : (vs : List Value) (found : List LookUp) (t : Tree) → nodes found ≡ texture_nodes t → map (λ l. name_with vs (tree_expr l.name.now)) found ≡ names_with t vs
names_found vs found t is = named_nodes vs found ∙ ap (map (λ n. name_with vs n.name)) is

pub names_at_place : (read : List ReadShader) (place : ℕ) (s : ReadShader) (vs : List Value) → place < length read → s ≡ get_or read place s
    → names_with (tree_read s) vs ≡ names_at (slice_get (map tree_read read) place) vs
names_at_place read place s vs low is =
    ap (λ o. names_at o vs) (sym (slice_get-map tree_read read place ∙ ap (option_map tree_read) (slice_get-get_or read place s low ∙ ap (λ t. Some t) (sym is))))

pub all_counted : (trees : List Tree) (ns : List ℕ) (vss : List (List Value)) → length vss ≡ length ns → length (all_names trees ns vss) ≡ length ns
all_counted trees [] [] h = refl
all_counted trees [] (vs ∷ vss) h = absurd (omega (arith, h))
all_counted trees (n ∷ ns) [] h = absurd (omega (arith, h))
all_counted trees (n ∷ ns) (vs ∷ vss) h = ap suc (all_counted trees ns vss (omega (arith, h)))

names_there : (trees : List Tree) (ns : List ℕ) (vss : List (List Value)) (i : ℕ) (vs : List Value) → length vss ≡ length ns → i < length ns → vs ≡ get_or vss i vs
    → names_at (slice_get trees (get_or ns i 0)) vs ≡ get_or (all_names trees ns vss) i (names_at (slice_get trees (get_or ns i 0)) vs)
names_there trees [] vss i vs many low is = absurd (omega (arith, low))
names_there trees (m ∷ ns) [] i vs many low is = absurd (omega (arith, many))
names_there trees (m ∷ ns) (ws ∷ vss) zero vs many low is = ap (names_at (slice_get trees m)) is
names_there trees (m ∷ ns) (ws ∷ vss) (suc i) vs many low is = names_there trees ns vss i vs (omega (arith, many)) (omega (arith, low)) is

-- the names of a use, by what is at hand of the shaders
pub names_placed : (shaders : UsedShaders) (bound : List (List Value)) (read : List ReadShader) (ns : List ℕ) (i : ℕ) (vs ws : List Value) → read ≡ shaders.read → ns ≡ shaders.of_use
    → length bound ≡ length shaders.of_use → i < length ns → ws ≡ get_or bound i ws → vs ≡ ws
    → names_at (slice_get (map tree_read read) (get_or ns i 0)) vs ≡ get_or (names_read shaders bound) i (names_at (slice_get (map tree_read read) (get_or ns i 0)) vs)
names_placed shaders bound read ns i vs ws same_read same_places many low is at =
    let here : vs ≡ get_or bound i vs = at ∙ is ∙ ap (get_or bound i) (sym at) in
    let count : length ns ≡ length shaders.of_use = ap length same_places in
    rw (same_read, same_places) (names_there (map tree_read shaders.read) shaders.of_use bound i vs many (omega (arith, low, count)) here)

pub names_counted : (shaders : UsedShaders) (bound : List (List Value)) (ns : List ℕ) → ns ≡ shaders.of_use → length bound ≡ length shaders.of_use → length (names_read shaders bound) ≡ length ns
names_counted shaders bound ns same many = all_counted (map tree_read shaders.read) shaders.of_use bound many ∙ ap length (sym same)

pub place_low : (shaders : UsedShaders) (read : List ReadShader) (ns : List ℕ) (i : ℕ) → read ≡ shaders.read → ns ≡ shaders.of_use → ArePlaces shaders.of_use (length shaders.read) → i < length ns
    → get_or ns i 0 < length read
place_low shaders read ns i same_read same_places placed low =
    let count : length ns ≡ length shaders.of_use = ap length same_places in
    let at : get_or ns i 0 ≡ get_or shaders.of_use i 0 = ap (λ (ms : List ℕ). get_or ms i 0) same_places in
    let many : length read ≡ length shaders.read = ap length same_read in
    let here : get_or shaders.of_use i 0 < length shaders.read = placed i 0 (omega (arith, low, count)) in
    omega (arith, here, at, many)

-- ---- the set
pub set_made : (shaders : UsedShaders) (uses : List ShaderUse) (bound : List (List Value)) (t : UsedTextures) → bound ≡ all_values shaders.read uses shaders.of_use
    → t.look_ups ≡ entries_in (texture_names (names_read shaders bound)) (names_read shaders bound)
    → record { trees = map tree_read shaders.read; of_use = shaders.of_use; bound = bound; look_ups = t.look_ups; textures = t.read } ≡ set_read shaders uses t.read
set_made shaders uses bound t values entries =
    let set : List (List Value) → List (List (Option ℕ)) → SetValue = λ vss ess.
    record { trees = map tree_read shaders.read; of_use = shaders.of_use; bound = vss; look_ups = ess; textures = t.read } in
    ap (λ (ess : List (List (Option ℕ))). set bound ess) entries
    ∙ ap (λ (vss : List (List Value)). set vss (entries_in (texture_names (names_read shaders vss)) (names_read shaders vss))) values

-- A command's scene, and the verdict.
use Rattle.std.proofs.Common.{◌≡◌, ℕ, List, ◌++◌, Option, Some, None, Ok, sym, ap, ◌∙◌, subst, Vec}
use Rattle.std.specs.declared.alloc.Global.{Global}
use Rattle.outside.specs.Causes.{Told}
use Rattle.outside.specs.Library.{Files}
use Rattle.outside.specs.Asked.{AsksAll, AsksFront}
use Rattle.outside.proofs.Asking.{asks_front-before, asks_front-behind}
use Rattle.stock.specs.Demo.{demo}
use Rattle.acceptance.specs.Accepting.{scene_of_text, asked_for_scene}
use Rattle.command_line.specs.Command.{Source, Demo, SceneTask, OnScene}
use Rattle.render.specs.Notes.{scene_name}
use Rattle.render.specs.Verdict.{text_of_source, names_of_source, asked_for_text, asked_for_command}
use Rattle.render.specs.Answers.{GivesText}

-- the scene's file alone is asked for
pub scene_asked : (held : Option Files) (c : SceneTask) (o p : Option (List (List ℕ))) → AsksFront (names_of_source c.source) o p
    → Told held (λ files. AsksFront (asked_for_command (Some (OnScene c)) files) o p)
scene_asked None c o p one = tt
scene_asked (Some files) c o p one = asks_front-before (names_of_source c.source) (asked_for_text files (text_of_source files c.source)) o p one

-- and those of its shaders' files behind it
pub shaders_asked_too : (held held_then : Option Files) (c : SceneTask) (text : List ℕ) (o p q : Option (List (List ℕ))) → held_then ≡ held
    → Told held (λ files. text_of_source files c.source ≡ Ok text) → AsksAll (names_of_source c.source) o p
    → Told held_then (λ files. AsksFront (asked_for_scene files (scene_of_text text)) p q) → Told held (λ files. AsksFront (asked_for_command (Some (OnScene c)) files) o q)
shaders_asked_too None held_then c text o p q same is one others = tt
shaders_asked_too (Some files) held_then c text o p q same is one others =
    let told : Told (Some files) (λ fs. AsksFront (asked_for_scene fs (scene_of_text text)) p q) =
    subst (λ h. Told h (λ fs. AsksFront (asked_for_scene fs (scene_of_text text)) p q)) same others in
    subst (λ r. AsksFront (names_of_source c.source ++ asked_for_text files r) o q) (sym is) (asks_front-behind (names_of_source c.source) (asked_for_scene files (scene_of_text text)) o p q one told)

-- the same, where the text is read through a reference
pub text_asked_too : (held held_then : Option Files) (c : SceneTask) (text seen : List ℕ) (o p q : Option (List (List ℕ))) → held_then ≡ held → seen ≡ text
    → Told held (λ files. text_of_source files c.source ≡ Ok text) → AsksAll (names_of_source c.source) o p
    → Told held_then (λ files. AsksFront (asked_for_scene files (scene_of_text seen)) p q) → Told held (λ files. AsksFront (asked_for_command (Some (OnScene c)) files) o q)
text_asked_too held held_then c text seen o p q same reads is one others =
    shaders_asked_too held held_then c text o p q same is one
    (subst (λ b. Told held_then (λ files. AsksFront (asked_for_scene files (scene_of_text b)) p q)) reads others)

-- the text of the demonstration scene is read whatever is held
pub demo_read : (held : Option Files) (source : Source) (count : ℕ) (text : Vec ℕ Global) → source ≡ Demo count → text.items ≡ demo count
    → Told held (λ files. GivesText (scene_name source) (Ok (Some text)) (text_of_source files source))
demo_read None source count text is reads = tt
demo_read (Some files) source count text is reads = ap (text_of_source files) is ∙ ap (λ (t : List ℕ). Ok t) (sym reads)

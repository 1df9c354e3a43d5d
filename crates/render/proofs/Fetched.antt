-- What a fetched file says of a scene's text.
use Rattle.std.proofs.Common.{◌≡◌, ℕ, List, Option, Some, None, Ok, Err, [], ◌++◌, length, cond, sym, ap, ◌∙◌, subst}
use Rattle.std.specs.Prelude.{◌≤◌}
use Rattle.std.proofs.lemmas.Bool.{lt-ltb, le-ltb}
use Rattle.outside.specs.Causes.{Told}
use Rattle.outside.specs.Library.{Files, held_as, Fetches, IsOfSize}
use Rattle.outside.specs.declared.library.Fetch.{Fetch}
use Rattle.outside.specs.declared.library.Fetch.TheVariants.{Whole, TooLong}
use Rattle.acceptance.specs.declared.refusal.Refusal.{Refusal}
use Rattle.acceptance.specs.declared.refusal.FileId.TheVariants.{Scene}
use Rattle.acceptance.specs.declared.code.FaultCode.TheVariants.{M10}
use Rattle.acceptance.specs.Causes.{At, cause_in}
use Rattle.acceptance.specs.Answers.{Because}
use Rattle.acceptance.proofs.Fetched.{whole_held, long}
use Rattle.render.specs.Verdict.{most_bytes, text_of_held}

pub whole_scene : (result : Fetch) (held : Option Files) (name old new : List ℕ) → result ≡ Whole → old ≡ [] → Fetches result most_bytes held name old new
    → Told held (λ files. text_of_held name (held_as files name) ≡ Ok new)
whole_scene result None name old new is empty f = tt
whole_scene result (Some files) name old new is empty f =
    let size : length f.bytes ≤ most_bytes = subst (λ q. IsOfSize q most_bytes (length f.bytes)) is f.size in
    let same : new ≡ f.bytes = f.added ∙ ap (λ o. o ++ f.bytes) empty in
    let few : length new ≤ most_bytes = subst (λ b. length b ≤ most_bytes) (sym same) size in
    ap (text_of_held name) (whole_held result most_bytes (held_as files name) old new f.bytes is empty f.added f.content)
    ∙ ap (λ b. cond b (Err (At Scene 1 M10)) (Ok new)) (le-ltb most_bytes (length new) few)

pub long_scene : (result : Fetch) (held : Option Files) (name old new : List ℕ) (r : Refusal) → result ≡ TooLong → Fetches result most_bytes held name old new
    → Because r (Some (At Scene 1 M10)) → Told held (λ files. Because r (cause_in (text_of_held name (held_as files name))))
long_scene result None name old new r is f because = tt
long_scene result (Some files) name old new r is f because =
    let l = long most_bytes result (held_as files name) f.bytes is f.size f.content in
    subst (λ t. Because r (cause_in t))
    (sym (ap (text_of_held name) l.1 ∙ ap (λ b. cond b (Err (At Scene 1 M10)) (Ok l.0)) (lt-ltb most_bytes (length l.0) l.2))) because

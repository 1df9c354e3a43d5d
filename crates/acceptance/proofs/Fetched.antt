-- What a fetched file says of its shader.
use Rattle.std.proofs.Common.{◌≡◌, ℕ, List, Option, Some, None, Result, Ok, Err, All, [], ◌∷◌, ◌++◌, length, ◌<◌, ◌+◌, cond, refl, sym, ap, ◌∙◌, subst, arith, length-append}
use Rattle.std.specs.Prelude.{Vec}
use Rattle.std.specs.declared.alloc.Global.{Global}
use Rattle.std.proofs.lemmas.Bool.{lt-ltb}
use Rattle.std.proofs.lemmas.List.Elements.{All-append, All-cons}
use Rattle.outside.specs.Causes.{Told}
use Rattle.outside.specs.Library.{Files, held_as, Fetches, IsHeldAs, IsOfSize}
use Rattle.outside.specs.declared.library.Fetch.{Fetch}
use Rattle.outside.specs.declared.library.Fetch.TheVariants.{Whole, Missing, TooLong}
use Rattle.acceptance.specs.declared.refusal.Refusal.{Refusal}
use Rattle.acceptance.specs.declared.refusal.Refusal.TheVariants.{NoMemory}
use Rattle.acceptance.specs.declared.refusal.FileId.TheVariants.{Shader}
use Rattle.acceptance.specs.declared.code.FaultCode.TheVariants.{M10}
use Rattle.acceptance.specs.Causes.{At, cause_in}
use Rattle.acceptance.specs.Shaders.{text_with, tree_of_parsed, tree_of_text, most_shader_bytes, file_of, shader_tree}
use Rattle.sl_parser.specs.Files.{parsed}
use Rattle.acceptance.specs.declared.read.ReadShader.{ReadShader}
use Rattle.sl_ast.specs.TreeView.{tree_of}
use Rattle.acceptance.specs.Reading.{IsReadOf, GivesShaderText}
use Rattle.acceptance.specs.Answers.{Because}

-- what a fetch says of what is held
pub whole_held : (result : Fetch) (limit : ℕ) (held : Option (List ℕ)) (old new bytes : List ℕ) → result ≡ Whole → old ≡ [] → new ≡ old ++ bytes → IsHeldAs result bytes held
    → held ≡ Some new
whole_held result limit held old new bytes is empty added content =
    let here : held ≡ Some bytes = subst (λ r. IsHeldAs r bytes held) is content in
    let same : new ≡ bytes = added ∙ ap (λ o. o ++ bytes) empty in
    here ∙ ap (λ b. Some b) (sym same)

-- the file's text
pub whole_text : (result : Fetch) (held : Option Files) (name file old : List ℕ) (text : Vec ℕ Global) → result ≡ Whole → old ≡ [] → Fetches result most_shader_bytes held file old text.items
    → file ≡ file_of name → Told held (λ files. GivesShaderText name (held_as files (file_of name)) (Ok text))
whole_text result None name file old text is empty f of = tt
whole_text result (Some files) name file old text is empty f of =
    let here : held_as files (file_of name) ≡ Some text.items =
    ap (held_as files) (sym of) ∙ whole_held result most_shader_bytes (held_as files file) old text.items f.bytes is empty f.added f.content in
    ap (λ h. text_with h name) here

-- the stock's
pub missing_text : (result : Fetch) (held : Option Files) (name file old new : List ℕ) (r : Result (Vec ℕ Global) Refusal) → result ≡ Missing → Fetches result most_shader_bytes held file old new
    → file ≡ file_of name → GivesShaderText name None r → Told held (λ files. GivesShaderText name (held_as files (file_of name)) r)
missing_text result None name file old new r is f of gives = tt
missing_text result (Some files) name file old new r is f of gives =
    let here : held_as files file ≡ None = subst (λ q. IsHeldAs q f.bytes (held_as files file)) is f.content in
    subst (λ h. GivesShaderText name h r) (sym (ap (held_as files) (sym of) ∙ here)) gives

pub long : (limit : ℕ) (result : Fetch) (held : Option (List ℕ)) (bytes : List ℕ) → result ≡ TooLong → IsOfSize result limit (length bytes) → IsHeldAs result bytes held
    → (whole : List ℕ) × (held ≡ Some whole) × (limit < length whole)
long limit result held bytes is sized content =
    let rest : IsHeldAs TooLong bytes held = subst (λ q. IsHeldAs q bytes held) is content in
    let size : length bytes ≡ limit + 1 = subst (λ q. IsOfSize q limit (length bytes)) is sized in
    (bytes ++ rest.0, rest.1, omega (arith, size, length-append bytes rest.0))

too_long : (name bytes : List ℕ) → most_shader_bytes < length bytes → tree_of_text name (Some bytes) ≡ Err (At (Shader name) 1 M10)
too_long name bytes more = ap (λ b. cond b (Err (At (Shader name) 1 M10)) (tree_of_parsed name (parsed bytes))) (lt-ltb most_shader_bytes (length bytes) more)

pub long_text : (result : Fetch) (held : Option Files) (name file old new : List ℕ) (r : Refusal) → result ≡ TooLong → Fetches result most_shader_bytes held file old new
    → file ≡ file_of name → Because r (Some (At (Shader name) 1 M10)) → Told held (λ files. Because r (cause_in (tree_of_text name (text_with (held_as files (file_of name)) name))))
long_text result None name file old new r is f of because = tt
long_text result (Some files) name file old new r is f of because =
    let l = long most_shader_bytes result (held_as files file) f.bytes is f.size f.content in
    let here : held_as files (file_of name) ≡ Some l.0 = ap (held_as files) (sym of) ∙ l.1 in
    subst (λ t. Because r (cause_in t)) (sym (ap (λ h. tree_of_text name (text_with h name)) here ∙ too_long name l.0 l.2)) because

-- the tree of a shader by its text
of_text : (files : Files) (name : List ℕ) (o : Option (List ℕ)) → text_with (held_as files (file_of name)) name ≡ o → shader_tree files name ≡ tree_of_text name o
unfolding shader_tree
of_text files name o is = ap (tree_of_text name) is

pub text_read : (held : Option Files) (name text : List ℕ) (s : ReadShader) → Told held (λ files. text_with (held_as files (file_of name)) name ≡ Some text)
    → s.name ≡ name → tree_of_text name (Some text) ≡ Ok (tree_of s.tree) → Told held (λ files. IsReadOf files s)
text_read None name text s gives named tree = tt
text_read (Some files) name text s gives named tree = record { tree = ap (shader_tree files) named ∙ of_text files name (Some text) gives ∙ tree }

pub text_refused : (held : Option Files) (name : List ℕ) (r : Refusal) → Told held (λ files. Because r (cause_in (tree_of_text name (text_with (held_as files (file_of name)) name))))
    → Told held (λ files. Because r (cause_in (shader_tree files name)))
text_refused None name r because = tt
text_refused (Some files) name r because =
    subst (λ t. Because r (cause_in t)) (sym (of_text files name (text_with (held_as files (file_of name)) name) refl)) because

pub tree_refused : (held : Option Files) (name text : List ℕ) (r : Refusal) → Told held (λ files. text_with (held_as files (file_of name)) name ≡ Some text)
    → Because r (cause_in (tree_of_text name (Some text))) → Told held (λ files. Because r (cause_in (shader_tree files name)))
tree_refused None name text r gives because = tt
tree_refused (Some files) name text r gives because = subst (λ q. Because r (cause_in q)) (sym (of_text files name (Some text) gives)) because

-- a shader more is read
pub told_pushed : (held : Option Files) (old new : List ReadShader) (s : ReadShader) → Told held (λ files. IsReadOf files s) → new ≡ old ++ s ∷ []
    → Told held (λ files. All (IsReadOf files) old → All (IsReadOf files) new)
told_pushed None old new s read is = tt
told_pushed (Some files) old new s read is = λ all.
    subst (λ xs. All (IsReadOf files) xs) (sym is)
    (All-append (IsReadOf files) old (s ∷ []) all (All-cons (IsReadOf files) s [] read (λ k d low. absurd (omega (arith, low)))))

-- want of memory is no cause
pub no_memory : (held : Option Files) (name : List ℕ) → Told held (λ files. Because NoMemory (cause_in (shader_tree files name)))
no_memory None name = tt
no_memory (Some files) name = tt

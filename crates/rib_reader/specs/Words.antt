-- The words of a text, and what they declare (RenderMan Interface 3.2, section 3).
use Rattle.std.specs.Prelude.{◌≡◌, refl, ℕ, Bool, not, ◌||◌, ◌==◌, List, [], ◌∷◌, Option, Some, None, Result, Ok, Err, if◌then◌else◌, codes, filter, length}
use Rattle.std.specs.List.{slice_split}
use Rattle.std.specs.Option.{option_or}
use Rattle.std.specs.Str.{bytes_eq}
use Rattle.scene.specs.declared.params.Class.{Class}
use Rattle.scene.specs.declared.params.Class.TheVariants.{Uniform, Varying, Vertex}
use Rattle.scene.specs.declared.params.Kind.{Kind}
use Rattle.scene.specs.declared.params.Kind.TheVariants.{Float, Point, Color}
use Rattle.rib_reader.specs.declared.faults.RibCode.{RibCode}
use Rattle.rib_reader.specs.declared.faults.RibCode.TheVariants.{S2, S3, S4}
use Rattle.rib_reader.specs.declared.declared.Declared.{Declared}
use Rattle.rib_reader.specs.Names.{entry_of, class_names, kind_names, variable_names}

-- space, tab, line feed, carriage return
abbrev pub is_white : ℕ → Bool
is_white b = b == 32 || b == 9 || b == 10 || b == 13

abbrev pub has_bytes : List ℕ → Bool
has_bytes word = not (length word == 0)

-- the words of a text: the runs of bytes between white space, as long as they can be
abbrev pub words_of : List ℕ → List (List ℕ)
words_of text = filter has_bytes (slice_split is_white text)

-- a class and a kind, where these words are
abbrev pub typed : Option Class → Option Kind → Result (Class × Kind) RibCode
typed (Some class) (Some kind) = Ok (class, kind)
typed _ _ = Err S2

-- the type that words give: a kind, or a class before it
abbrev pub type_of : List (List ℕ) → Result (Class × Kind) RibCode
type_of (kind ∷ []) = typed (Some Uniform) (entry_of kind_names kind)
type_of (class ∷ kind ∷ []) = typed (entry_of class_names class) (entry_of kind_names kind)
type_of _ = Err S3

-- what the second word of `Declare` says
abbrev pub declared_type : List ℕ → Result (Class × Kind) RibCode
declared_type text = type_of (words_of text)

-- a name with its class and kind
abbrev pub with_type : List ℕ → Class × Kind → Declared
with_type name type = record { name = name; class = type.0; kind = type.1 }

abbrev pub named_so : List ℕ → Result (Class × Kind) RibCode → Result Declared RibCode
named_so name (Ok type) = Ok (with_type name type)
named_so name (Err code) = Err code

-- an inline declaration: a kind and a name, or a class before them
abbrev pub inline_of : List (List ℕ) → Result Declared RibCode
inline_of (kind ∷ name ∷ []) = named_so name (typed (Some Uniform) (entry_of kind_names kind))
inline_of (class ∷ kind ∷ name ∷ []) = named_so name (typed (entry_of class_names class) (entry_of kind_names kind))
inline_of _ = Err S4

-- the class and kind of the last declaration of a name
abbrev pub last_type : List Declared → List ℕ → Option (Class × Kind)
last_type [] name = None
last_type (d ∷ ds) name = option_or (last_type ds name) (if bytes_eq d.name name then Some (d.class, d.kind) else None)

abbrev pub or_inline : Option (Class × Kind) → List ℕ → Result Declared RibCode
or_inline (Some type) token = Ok (with_type token type)
or_inline None token = inline_of (words_of token)

-- a token is a name that is declared, white space in it or not, else an inline declaration
abbrev pub token_of : List Declared → List ℕ → Result Declared RibCode
token_of dict token = or_inline (option_or (last_type dict token) (entry_of variable_names token)) token

-- worked values
words : words_of (codes " uniform\tfloat \n Kx") ≡ codes "uniform" ∷ codes "float" ∷ codes "Kx" ∷ []
words = refl

no_words : words_of (codes "  ") ≡ []
no_words = refl

known : token_of [] (codes "fov") ≡ Ok record { name = codes "fov"; class = Uniform; kind = Float }
known = refl

inline : token_of [] (codes "vertex point  Pref") ≡ Ok record { name = codes "Pref"; class = Vertex; kind = Point }
inline = refl

later : token_of (record { name = codes "Kd"; class = Varying; kind = Color } ∷ []) (codes "Kd") ≡ Ok record { name = codes "Kd"; class = Varying; kind = Color }
later = refl

no_class : token_of [] (codes "some float Kx") ≡ Err S2
no_class = refl

undeclared : token_of [] (codes "fo") ≡ Err S4
undeclared = refl

no_type_of_two : declared_type (codes "varying fixed") ≡ Err S2
no_type_of_two = refl

no_type_of_three : declared_type (codes "a b c") ≡ Err S3
no_type_of_three = refl

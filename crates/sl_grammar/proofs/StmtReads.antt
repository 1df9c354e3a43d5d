-- The tokens of a statement of the grammar are read as that statement.
use Rattle.std.proofs.Common.{◌≡◌, ℕ, zero, suc, ◌≤◌, ◌∷◌, [], ◌++◌, List, Option, Some, None, Ok, Bool, false, length, length-append, map, refl, sym, ap, subst, ◌∙◌, append_assoc, arith}
use Rattle.std.specs.Prelude.{option_map}
use Rattle.sl_ast.specs.Syntax as S
use Rattle.sl_ast.specs.Levels.{levels_of, levels_where, levels_set, levels_cone, levels_names}
use Rattle.sl_ast.specs.declared.kinds.Class.{Class}
use Rattle.sl_ast.specs.declared.kinds.SetOperator.TheVariants as sets
use Rattle.sl_lexer.specs.declared.token.Token.{Token}
use Rattle.sl_lexer.specs.declared.token.TokenKind.{TokenKind}
use Rattle.sl_lexer.specs.declared.token.TokenKind.TheVariants as kinds
use Rattle.sl_lexer.specs.declared.token.Mark.TheVariants.{LeftParen, RightParen, Semicolon, Comma}
use Rattle.sl_expression_grammar.specs.Reading.{◌>>=◌, with_front, many, after_comma, commas, past, is_mark, head_is}
use Rattle.sl_expression_grammar.specs.Expressions.{expr_at}
use Rattle.sl_parser.specs.declared.declarations.Valued.{Valued}
use Rattle.sl_parser.specs.declared.declarations.Valued.TheVariants.{Always, Never, Freely}
use Rattle.sl_parser.specs.Statements.{front_line, set_at, set_then, set_with, type_at, is_equals, value_then, value_with, declared_with, group_then, group_with, test_with, set_or, is_name, set_maybe, For, for_head, pair_with, cone_in, lights_head}
use Rattle.sl_parser.specs.Spelled.{kinds_of, spelled, spelled_set, spelled_maybe, spelled_value, spelled_declared, spelled_further, spelled_names, spelled_class, spelled_group, spelled_pair, spelled_cone, spelled_test, spelled_for}
use Rattle.sl_grammar.specs.Bare.{bare, bare_set, bare_declared, bare_pair, bare_group}
use Rattle.sl_grammar.specs.Grammatical.{Grammatical, Ends, GrammaticalValue, GrammaticalValues, GrammaticalNames, GrammaticalSet, GrammaticalCone}
use Rattle.sl_grammar.proofs.Got.{Got, got_bind, got_front, got_more, got_past, at_front, token, Lacks, not_after, many_more, many_none}
use Rattle.sl_grammar.proofs.ExprReads.{whole_read, kinds_length}
use Rattle.sl_grammar.proofs.Rises.{Same}

-- what is seen so, before these tokens
abbrev pub Seen : {A : Type 0} → (A → A) → A → List TokenKind → A → List Token → Type 0
Seen view a ks x rest = (view x ≡ view a) × (kinds_of rest ≡ ks)

-- what stands after the value of a declaration, and after the last name
abbrev pub Closes : List TokenKind → Type 0
Closes ks = Ends 10 ks × Lacks is_equals ks

not_head : (p : TokenKind → Bool) (ts : List Token) → Lacks p (kinds_of ts) → head_is p ts ≡ false
not_head p [] h = refl
not_head p (t ∷ ts) h = h

module _ (levels : ℕ) where
  pub set_read : (a : S.Assignment) → Grammatical a.value → levels_of a.value ≤ levels → (ks : List TokenKind) → Ends 10 ks → (ts : List Token) → kinds_of ts ≡ spelled_set a ++ ks
      → Got (set_with (expr_at levels) ts) (Seen bare_set a ks)
  set_read a g w ks h ts t =
      let value = spelled a.value ++ ks in
      at_front ts (kinds.Name a.name) (kinds.Set a.operator ∷ value) t (λ ts. Got (set_with (expr_at levels) ts) (Seen bare_set a ks)) (λ at rest i.
      at_front rest (kinds.Set a.operator) value i (λ us. Got (set_then (expr_at levels) a.name at (front_line us) us (set_at us)) (Seen bare_set a ks)) (λ line us u.
      got_bind (expr_at levels us) (λ e. Ok (record { name = a.name; operator = a.operator; value = e.0; line = at; set_line = line }, e.1)) (Same a.value ks) (Seen bare_set a ks)
      (whole_read a.value g levels w ks h us u)
      (λ x p. (ap (λ y. record { name = a.name; operator = a.operator; value = y; line = 0; set_line = 0 }) p.0, p.1))))

  value_none : (valued : Valued) → GrammaticalValue valued None → (ts : List Token) (ks : List TokenKind) → Lacks is_equals ks → kinds_of ts ≡ ks
      → Got (value_with (expr_at levels) valued ts) (Seen (option_map bare) None ks)
  value_none Always g ts ks h t = absurd g
  value_none Never g ts ks h t =
      subst (λ o. Got (value_then (expr_at levels) Never ts o) (Seen (option_map bare) None ks)) (sym (not_after is_equals ts (subst (Lacks is_equals) (sym t) h))) (refl, t)
  value_none Freely g ts ks h t =
      subst (λ o. Got (value_then (expr_at levels) Freely ts o) (Seen (option_map bare) None ks)) (sym (not_after is_equals ts (subst (Lacks is_equals) (sym t) h))) (refl, t)

  value_given : (e : S.Expr) → Grammatical e → levels_of e ≤ levels → (ts : List Token) (ks : List TokenKind) → Ends 10 ks → kinds_of ts ≡ spelled e ++ ks
      → Got (expr_at levels ts >>= λ e. Ok (Some e.0, e.1)) (Seen (option_map bare) (Some e) ks)
  value_given e g w ts ks h t =
      got_bind (expr_at levels ts) (λ e. Ok (Some e.0, e.1)) (Same e ks) (Seen (option_map bare) (Some e) ks) (whole_read e g levels w ks h ts t) (λ x p. (ap (λ y. Some y) p.0, p.1))

  value_some : (valued : Valued) (e : S.Expr) → GrammaticalValue valued (Some e) → levels_of e ≤ levels → (ts : List Token) (ks : List TokenKind) → Ends 10 ks
      → kinds_of ts ≡ kinds.Set sets.Set ∷ (spelled e ++ ks) → Got (value_with (expr_at levels) valued ts) (Seen (option_map bare) (Some e) ks)
  value_some Always e g w ts ks h t =
      at_front ts (kinds.Set sets.Set) (spelled e ++ ks) t (λ ts. Got (value_with (expr_at levels) Always ts) (Seen (option_map bare) (Some e) ks)) (λ line rest r. value_given e g w rest ks h r)
  value_some Never e g w ts ks h t = absurd g
  value_some Freely e g w ts ks h t =
      at_front ts (kinds.Set sets.Set) (spelled e ++ ks) t (λ ts. Got (value_with (expr_at levels) Freely ts) (Seen (option_map bare) (Some e) ks)) (λ line rest r. value_given e g w rest ks h r)

  value_read : (valued : Valued) (v : Option S.Expr) → GrammaticalValue valued v → levels_where v ≤ levels → (ks : List TokenKind) → Closes ks → (ts : List Token) → kinds_of ts ≡ spelled_value v ++ ks
      → Got (value_with (expr_at levels) valued ts) (Seen (option_map bare) v ks)
  value_read valued None g w ks h ts t = value_none valued g ts ks h.1 t
  value_read valued (Some e) g w ks h ts t = value_some valued e g w ts ks h.0 t

  declared_read : (valued : Valued) (d : S.Declared) → GrammaticalValue valued d.value → levels_where d.value ≤ levels → (ks : List TokenKind) → Closes ks → (ts : List Token)
      → kinds_of ts ≡ spelled_declared d ++ ks → Got (declared_with (expr_at levels) valued ts) (Seen bare_declared d ks)
  declared_read valued d g w ks h ts t =
      at_front ts (kinds.Name d.name) (spelled_value d.value ++ ks) t (λ ts. Got (declared_with (expr_at levels) valued ts) (Seen bare_declared d ks)) (λ at rest r.
      got_bind (value_with (expr_at levels) valued rest) (λ value. Ok (record { name = d.name; value = value.0; line = at; set_line = front_line rest }, value.1)) (Seen (option_map bare) d.value ks) (Seen bare_declared d ks)
      (value_read valued d.value g w ks h rest r) (λ x p. (ap (λ y. record { name = d.name; value = y; line = 0; set_line = 0 }) p.0, p.1)))

  -- what stands after the last name
  abbrev pub ClosesNames : List TokenKind → Type 0
  ClosesNames ks = Closes ks × Lacks (is_mark Comma) ks

  closes_further : (ds : List S.Declared) (ks : List TokenKind) → Closes ks → Closes (spelled_further ds ++ ks)
  closes_further [] ks h = h
  closes_further (d ∷ ds) ks h = (omega arith, refl)

  further_within : (ds : List S.Declared) (ks : List TokenKind) → length ds ≤ length (spelled_further ds ++ ks)
  further_within [] ks = omega arith
  further_within (d ∷ ds) ks =
      let i = further_within ds ks in
      let l = length-append (spelled_declared d) (spelled_further ds ++ ks) in
      let a = ap length (append_assoc (spelled_declared d) (spelled_further ds) ks) in
      omega (arith, i, l, a)

  further_read : (valued : Valued) (ds : List S.Declared) → GrammaticalValues valued ds → levels_names ds ≤ levels → (ks : List TokenKind) → ClosesNames ks → (turns : ℕ) (ts : List Token)
      → length ds ≤ turns → kinds_of ts ≡ spelled_further ds ++ ks → Got (many (after_comma (declared_with (expr_at levels) valued)) turns ts) (Seen (map bare_declared) ds ks)
  further_read valued [] g w ks h turns ts l t =
      let item = declared_with (expr_at levels) valued in
      many_none (after_comma item) turns ts (ap (option_map item) (not_after (is_mark Comma) ts (subst (Lacks (is_mark Comma)) (sym t) h.1))) (Seen (map bare_declared) [] ks) (refl, t)
  further_read valued (d ∷ ds) g w ks h zero ts l t = absurd (omega (arith, l))
  further_read valued (d ∷ ds) g w ks h (suc turns) ts l t =
      let item = declared_with (expr_at levels) valued in
      let after = spelled_further ds ++ ks in
      let Q = Seen (map bare_declared) (d ∷ ds) ks in
      at_front ts (kinds.Mark Comma) ((spelled_declared d ++ spelled_further ds) ++ ks) t (λ ts. Got (many (after_comma item) (suc turns) ts) Q) (λ at us u.
      many_more (after_comma item) turns (token (kinds.Mark Comma) at ∷ us) (item us) refl (Seen bare_declared d after) Q
      (declared_read valued d g.0 (omega (arith, w)) after (closes_further ds ks h.0) us (u ∙ append_assoc (spelled_declared d) (spelled_further ds) ks)) (λ x vs p.
      got_more (many (after_comma item) turns vs) (Seen (map bare_declared) ds ks) (λ xs left. Q (x ∷ xs) left)
      (further_read valued ds g.1 (omega (arith, w)) ks h turns vs (omega (arith, l)) p.1)
      (λ xs left q. (ap (λ y. y ∷ map bare_declared xs) p.0 ∙ ap (λ ys. bare_declared d ∷ ys) q.0, q.1))))

  names_read : (valued : Valued) (ds : List S.Declared) → GrammaticalNames valued ds → levels_names ds ≤ levels → (ks : List TokenKind) → ClosesNames ks → (ts : List Token)
      → kinds_of ts ≡ spelled_names ds ++ ks → Got (commas (declared_with (expr_at levels) valued) ts) (Seen (map bare_declared) ds ks)
  names_read valued [] g w ks h ts t = let e = g.0 in absurd (omega (arith, e))
  names_read valued (d ∷ ds) g w ks h ts t =
      let item = declared_with (expr_at levels) valued in
      let after = spelled_further ds ++ ks in
      let Q = Seen (map bare_declared) (d ∷ ds) ks in
      got_bind (item ts) (λ x. with_front (x.0 ∷ []) (many (after_comma item) (length x.1) x.1)) (Seen bare_declared d after) Q
      (declared_read valued d g.1.0 (omega (arith, w)) after (closes_further ds ks h.0) ts (t ∙ append_assoc (spelled_declared d) (spelled_further ds) ks)) (λ x p.
      let n = kinds_length x.1 after p.1 in
      let a = further_within ds ks in
      got_front x.0 (many (after_comma item) (length x.1) x.1) (Seen (map bare_declared) ds ks) Q
      (further_read valued ds g.1.1 (omega (arith, w)) ks h (length x.1) x.1 (omega (arith, n, a)) p.1)
      (λ xs left q. (ap (λ y. y ∷ map bare_declared xs) p.0 ∙ ap (λ ys. bare_declared d ∷ ys) q.0, q.1)))

  type_read : (valued : Valued) (class : Option Class) (g : S.Group) → g.class ≡ class → GrammaticalNames valued g.names → levels_names g.names ≤ levels → (ks : List TokenKind) → ClosesNames ks → (ts : List Token)
      → kinds_of ts ≡ kinds.Type g.kind ∷ (spelled_names g.names ++ ks) → Got (group_then (expr_at levels) valued class ts (type_at ts)) (Seen bare_group g ks)
  type_read valued class g c f w ks h ts t =
      let Q = Seen bare_group g ks in
      at_front ts (kinds.Type g.kind) (spelled_names g.names ++ ks) t (λ ts. Got (group_then (expr_at levels) valued class ts (type_at ts)) Q) (λ at us u.
      got_bind (commas (declared_with (expr_at levels) valued) us) (λ names. Ok (record { class = class; kind = g.kind; names = names.0 }, names.1)) (Seen (map bare_declared) g.names ks) Q
      (names_read valued g.names f w ks h us u)
      (λ x p. (ap (λ y. record { class = y; kind = g.kind; names = map bare_declared x.0 }) (sym c) ∙ ap (λ y. record { class = g.class; kind = g.kind; names = y }) p.0, p.1)))

  class_read : (valued : Valued) (class : Option Class) (g : S.Group) → g.class ≡ class → GrammaticalNames valued g.names → levels_names g.names ≤ levels → (ks : List TokenKind) → ClosesNames ks → (ts : List Token)
      → kinds_of ts ≡ spelled_class class ++ (kinds.Type g.kind ∷ (spelled_names g.names ++ ks)) → Got (group_with (expr_at levels) valued ts) (Seen bare_group g ks)
  class_read valued None g c f w ks h ts t =
      let after = spelled_names g.names ++ ks in
      at_front ts (kinds.Type g.kind) after t (λ ts. Got (group_with (expr_at levels) valued ts) (Seen bare_group g ks)) (λ at rest r.
      type_read valued None g c f w ks h (token (kinds.Type g.kind) at ∷ rest) (ap (λ js. kinds.Type g.kind ∷ js) r))
  class_read valued (Some class) g c f w ks h ts t =
      let after = kinds.Type g.kind ∷ (spelled_names g.names ++ ks) in
      at_front ts (kinds.Class class) after t (λ ts. Got (group_with (expr_at levels) valued ts) (Seen bare_group g ks)) (λ at rest r. type_read valued (Some class) g c f w ks h rest r)

  pub group_read : (valued : Valued) (g : S.Group) → GrammaticalNames valued g.names → levels_names g.names ≤ levels → (ks : List TokenKind) → ClosesNames ks → (ts : List Token)
      → kinds_of ts ≡ spelled_group g ++ ks → Got (group_with (expr_at levels) valued ts) (Seen bare_group g ks)
  group_read valued g f w ks h ts t =
      class_read valued g.class g refl f w ks h ts (t ∙ append_assoc (spelled_class g.class) (kinds.Type g.kind ∷ spelled_names g.names) ks)

  pub test_read : (e : S.Expr) → Grammatical e → levels_of e ≤ levels → (ks : List TokenKind) (ts : List Token) → kinds_of ts ≡ spelled_test e ++ ks → Got (test_with (expr_at levels) ts) (Same e ks)
  test_read e g w ks ts t =
      let close = kinds.Mark RightParen ∷ [] in
      got_past LeftParen ts ((spelled e ++ close) ++ ks) (λ inside. expr_at levels inside >>= λ e. past RightParen e.1 λ rest. Ok (e.0, rest)) (Same e ks) t (λ inside i.
      got_bind (expr_at levels inside) (λ e. past RightParen e.1 λ rest. Ok (e.0, rest)) (Same e (close ++ ks)) (Same e ks)
      (whole_read e g levels w (close ++ ks) (omega arith) inside (i ∙ append_assoc (spelled e) close ks)) (λ x p.
      got_past RightParen x.1 ks (λ rest. Ok (x.0, rest)) (Same e ks) p.1 (λ rest r. (p.0, r))))

  maybe_read : (a : Option S.Assignment) → GrammaticalSet a → levels_set a ≤ levels → (ks : List TokenKind) → Ends 10 ks → Lacks is_name ks → (ts : List Token) → kinds_of ts ≡ spelled_maybe a ++ ks
      → Got (set_maybe (expr_at levels) ts) (Seen (option_map bare_set) a ks)
  maybe_read None g w ks h n ts t =
      subst (λ b. Got (set_or (expr_at levels) ts b) (Seen (option_map bare_set) None ks)) (sym (not_head is_name ts (subst (Lacks is_name) (sym t) n))) (refl, t)
  maybe_read (Some a) g w ks h n ts t =
      let Q = Seen (option_map bare_set) (Some a) ks in
      at_front ts (kinds.Name a.name) (kinds.Set a.operator ∷ (spelled a.value ++ ks)) t (λ ts. Got (set_maybe (expr_at levels) ts) Q) (λ at rest r.
      got_bind (set_with (expr_at levels) (token (kinds.Name a.name) at ∷ rest)) (λ set. Ok (Some set.0, set.1)) (Seen bare_set a ks) Q
      (set_read a g w ks h (token (kinds.Name a.name) at ∷ rest) (ap (λ js. kinds.Name a.name ∷ js) r)) (λ x p. (ap (λ y. Some y) p.0, p.1)))

  abbrev pub SeenFor : Option S.Assignment → S.Expr → Option S.Assignment → List TokenKind → For → List Token → Type 0
  SeenFor a e b ks x rest = ((option_map bare_set x.0 ≡ option_map bare_set a) × ((bare x.1 ≡ bare e) × (option_map bare_set x.2 ≡ option_map bare_set b))) × (kinds_of rest ≡ ks)

  pub for_read : (a : Option S.Assignment) (e : S.Expr) (b : Option S.Assignment) → GrammaticalSet a → Grammatical e → GrammaticalSet b → levels_set a ≤ levels → levels_of e ≤ levels → levels_set b ≤ levels
      → (ks : List TokenKind) (ts : List Token) → kinds_of ts ≡ spelled_for a e b ++ ks → Got (for_head (expr_at levels) ts) (SeenFor a e b ks)
  for_read a e b ga ge gb wa we wb ks ts t =
      let close = kinds.Mark RightParen ∷ [] in
      let third = kinds.Mark Semicolon ∷ (spelled_maybe b ++ close) in
      let second = kinds.Mark Semicolon ∷ (spelled e ++ third) in
      let Q = SeenFor a e b ks in
      let expr = expr_at levels in
      got_past LeftParen ts ((spelled_maybe a ++ second) ++ ks) _ Q t (λ inside i.
      got_bind (set_maybe expr inside) _ (Seen (option_map bare_set) a (second ++ ks)) Q
      (maybe_read a ga wa (second ++ ks) (omega arith) refl inside (i ∙ append_assoc (spelled_maybe a) second ks)) (λ x p.
      got_past Semicolon x.1 ((spelled e ++ third) ++ ks) _ Q p.1 (λ after_first u.
      got_bind (expr after_first) _ (Same e (third ++ ks)) Q (whole_read e ge levels we (third ++ ks) (omega arith) after_first (u ∙ append_assoc (spelled e) third ks)) (λ y q.
      got_past Semicolon y.1 ((spelled_maybe b ++ close) ++ ks) _ Q q.1 (λ after_test v.
      got_bind (set_maybe expr after_test) _ (Seen (option_map bare_set) b (close ++ ks)) Q
      (maybe_read b gb wb (close ++ ks) (omega arith) refl after_test (v ∙ append_assoc (spelled_maybe b) close ks)) (λ z o.
      got_past RightParen z.1 ks (λ rest. Ok ((x.0, y.0, z.0), rest)) Q o.1 (λ rest r. ((p.0, (q.0, o.0)), r))))))))

  pub pair_read : (c : S.Expr × S.Expr) → Grammatical c.0 → Grammatical c.1 → levels_of c.0 ≤ levels → levels_of c.1 ≤ levels → (ks : List TokenKind) (ts : List Token)
      → kinds_of ts ≡ spelled_pair c ++ ks → Got (pair_with (expr_at levels) ts) (Seen bare_pair c ks)
  pair_read c f g v w ks ts t =
      let close = kinds.Mark RightParen ∷ [] in
      let second = kinds.Mark Comma ∷ (spelled c.1 ++ close) in
      let Q = Seen bare_pair c ks in
      let expr = expr_at levels in
      got_bind (expr ts) (λ a. past Comma a.1 λ after_a. expr after_a >>= λ b. past RightParen b.1 λ rest. Ok ((a.0, b.0), rest)) (Same c.0 (second ++ ks)) Q
      (whole_read c.0 f levels v (second ++ ks) (omega arith) ts (t ∙ append_assoc (spelled c.0) second ks)) (λ x p.
      got_past Comma x.1 ((spelled c.1 ++ close) ++ ks) (λ after_a. expr after_a >>= λ b. past RightParen b.1 λ rest. Ok ((x.0, b.0), rest)) Q p.1 (λ us u.
      got_bind (expr us) (λ b. past RightParen b.1 λ rest. Ok ((x.0, b.0), rest)) (Same c.1 (close ++ ks)) Q
      (whole_read c.1 g levels w (close ++ ks) (omega arith) us (u ∙ append_assoc (spelled c.1) close ks)) (λ y q.
      got_past RightParen y.1 ks (λ rest. Ok ((x.0, y.0), rest)) Q q.1 (λ rest r. (ap (λ z. (z, bare y.0)) p.0 ∙ ap (λ z. (bare c.0, z)) q.0, r)))))

  cone_read : (c : Option (S.Expr × S.Expr)) → GrammaticalCone c → levels_cone c ≤ levels → (ks : List TokenKind) (ts : List Token)
      → kinds_of ts ≡ spelled_cone c ++ ks → Got (cone_in (expr_at levels) ts) (Seen (option_map bare_pair) c ks)
  cone_read None g w ks ts t =
      at_front ts (kinds.Mark RightParen) ks t (λ ts. Got (cone_in (expr_at levels) ts) (Seen (option_map bare_pair) None ks)) (λ at rest r. (refl, r))
  cone_read (Some c) g w ks ts t =
      let Q = Seen (option_map bare_pair) (Some c) ks in
      at_front ts (kinds.Mark Comma) (spelled_pair c ++ ks) t (λ ts. Got (cone_in (expr_at levels) ts) Q) (λ at rest r.
      got_bind (pair_with (expr_at levels) rest) (λ cone. Ok (Some cone.0, cone.1)) (Seen bare_pair c ks) Q (pair_read c g.0 g.1 (omega (arith, w)) (omega (arith, w)) ks rest r)
      (λ x p. (ap (λ y. Some y) p.0, p.1)))

  ends_cone : (c : Option (S.Expr × S.Expr)) (ks : List TokenKind) → Ends 10 (spelled_cone c ++ ks)
  ends_cone None ks = omega arith
  ends_cone (Some c) ks = omega arith

  abbrev pub SeenLights : S.Expr → Option (S.Expr × S.Expr) → List TokenKind → S.Expr × Option (S.Expr × S.Expr) → List Token → Type 0
  SeenLights e c ks x rest = ((bare x.0 ≡ bare e) × (option_map bare_pair x.1 ≡ option_map bare_pair c)) × (kinds_of rest ≡ ks)

  pub lights_read : (e : S.Expr) (c : Option (S.Expr × S.Expr)) → Grammatical e → GrammaticalCone c → levels_of e ≤ levels → levels_cone c ≤ levels → (ks : List TokenKind) (ts : List Token)
      → kinds_of ts ≡ kinds.Mark LeftParen ∷ ((spelled e ++ spelled_cone c) ++ ks) → Got (lights_head (expr_at levels) ts) (SeenLights e c ks)
  lights_read e c f g v w ks ts t =
      let Q = SeenLights e c ks in
      got_past LeftParen ts ((spelled e ++ spelled_cone c) ++ ks) (λ inside. expr_at levels inside >>= λ place. cone_in (expr_at levels) place.1 >>= λ cone. Ok ((place.0, cone.0), cone.1)) Q t (λ inside i.
      got_bind (expr_at levels inside) (λ place. cone_in (expr_at levels) place.1 >>= λ cone. Ok ((place.0, cone.0), cone.1)) (Same e (spelled_cone c ++ ks)) Q
      (whole_read e f levels v (spelled_cone c ++ ks) (ends_cone c ks) inside (i ∙ append_assoc (spelled e) (spelled_cone c) ks)) (λ x p.
      got_bind (cone_in (expr_at levels) x.1) (λ cone. Ok ((x.0, cone.0), cone.1)) (Seen (option_map bare_pair) c ks) Q (cone_read c g w ks x.1 p.1) (λ y q. ((p.0, q.0), q.1))))

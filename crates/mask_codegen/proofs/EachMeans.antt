-- Code without differences, as a light's, run at all places at once gives at each what the tree means there.
use Rattle.std.proofs.Common.{◌≡◌, ℕ, ◌+◌, ◌*◌, ◌<◌, Bool, true, false, List, get_or, refl, sym, ◌∙◌, arith, subst}
use Rattle.sl_ast.specs.Classes.{is_uniform_name}
use Rattle.sl_ast.specs.Names.{name_type}
use Rattle.sl_ast.specs.Typed as T
use Rattle.sl_ast.specs.Settled.{IsSettled}
use Rattle.sl_ast.specs.Names.{has_surface}
use Rattle.sl_ast.specs.WellTyped.{well_typed}
use Rattle.builtins.specs.declared.shape.Shape.{Shape}
use Rattle.builtins.specs.Names.{place_of}
use Rattle.builtins.specs.Values.{shape_of}
use Rattle.grid_code.specs.Names.{reg, first_free}
use Rattle.grid_code.specs.Code.{Block}
use Rattle.grid_code.specs.Masked.{Ground, State, read, masked}
use Rattle.sl_meaning.specs.Core.{Slot, no_slot, Stmts}
use Rattle.sl_meaning.specs.Environment.{Around}
use Rattle.sl_meaning.specs.Alone.{inside}
use Rattle.sl_meaning.specs.CoreAlone.{run_all}
use Rattle.sl_meaning.specs.Grid.{Envs}
use Rattle.sl_meaning.specs.Lowered.{slots, body_of}
use Rattle.core_codegen.specs.Correct.{Holds, IsGround, Begins, Means}
use Rattle.core_codegen.specs.Fine.{GridAll}
use Rattle.mask_codegen.proofs.CorePlain.{PlainAll}
use Rattle.mask_codegen.proofs.PlacedPlain.{plain_all}
use Rattle.mask_codegen.proofs.LoweredPlaced.{body_placed}
use Rattle.mask_codegen.proofs.LoweredGrid.{body_settled}
use Rattle.mask_codegen.proofs.Alike.{Exact}
use Rattle.mask_codegen.proofs.AllAlike.{body_alike}

-- a uniform register reads the same at all places
same_read : (g : State) (u : Bool) (t : Shape) (r i j : ℕ) → u ≡ true → read g (reg u t r) i ≡ read g (reg u t r) j
same_read g true t r i j h = refl
same_read g false t r i j h = absurd (cc h)

-- so the environments that one state holds agree on what is uniform
pub begins_exact : (ss : List Slot) (a : Around) (es : Envs) (s : State) → Begins ss a es s → Exact (a.lines.columns * a.lines.rows) ss es
begins_exact ss a es s y =
    record {
      agree = record {
        uniform = λ i j k l m lt u.
            let slot = get_or ss k no_slot in
            sym ((y.holds i l).values k lt) ∙ same_read s slot.uniform (shape_of slot.kind) (first_free + k) i j u ∙ (y.holds j m).values k lt;
        named = λ i j p l m u. sym ((y.holds i l).named p) ∙ same_read s (is_uniform_name p) (shape_of (name_type p)) (place_of p) i j u ∙ (y.holds j m).named p;
        turns = λ i j l m. sym (y.holds i l).turns ∙ (y.holds j m).turns;
        long = λ i l. let q = y.exact i l in omega arith;
      };
      exact = y.exact;
    }

pub means_each : (body : Stmts) (ss : List Slot) (code : Block) → GridAll body ss → PlainAll body → Means body ss code → (a : Around) (g : Ground) (n : ℕ) (es : Envs) (s : State) → Begins ss a es s → IsGround (a.lines.columns * a.lines.rows) g a
    → (i : ℕ) → i < a.lines.columns * a.lines.rows → Holds i ss first_free (inside (run_all body a n) (es i)).1 (masked code g (a.lines.columns * a.lines.rows) n s)
means_each body ss code fine plain m a g n es s y ground i l =
    let c = a.lines.columns * a.lines.rows in
    subst (λ e. Holds i ss first_free e (masked code g c n s)) (body_alike c n a body ss es fine plain (begins_exact ss a es s y) i l) (m.gives a g n es s y ground i l)

-- the body of a shader that is neither a surface's nor a displacement's
pub shader_means_each : (t : T.Tree) (code : Block) → well_typed t ≡ true → IsSettled t → has_surface t.kind ≡ false → Means (body_of t) (slots t.params) code
    → (a : Around) (g : Ground) (n : ℕ) (es : Envs) (s : State) → Begins (slots t.params) a es s → IsGround (a.lines.columns * a.lines.rows) g a → (i : ℕ) → i < a.lines.columns * a.lines.rows
    → Holds i (slots t.params) first_free (inside (run_all (body_of t) a n) (es i)).1 (masked code g (a.lines.columns * a.lines.rows) n s)
shader_means_each t code w h k m =
    means_each (body_of t) (slots t.params) code (body_settled t w h) (plain_all t.kind k (body_of t) false (slots t.params) (body_placed t w)) m

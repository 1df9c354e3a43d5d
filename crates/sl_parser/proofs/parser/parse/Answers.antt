use Rattle.std.proofs.Common.{◌≡◌, ap, sym, ◌∙◌, Ok}
use Rattle.sl_ast.specs.ShaderView.{shader_of}
use Rattle.sl_lexer.specs.Tokens.{tokens_of, last_line}
use Rattle.sl_parser.specs.Files.{file_of, placed, parsed}
use Rattle.sl_parser.proofs.FileTexts.{parsed_spelled}
use Rattle.sl_parser.proofs.parser.parse.Goals as goal

pub returns-in-Ok-clause-spells : goal.returns-in-Ok-clause-spells
returns-in-Ok-clause-spells c =
    let bytes = c.args.bytes.now in
    let end = last_line bytes in
    let tokens : c.deref.result.now ≡ tokens_of bytes = cc (c.deref.ensures.value, c.in_ok-tokens.ensures) in
    let whole : parsed bytes ≡ Ok (shader_of c.in-Ok.shader) =
    ap (λ ts. placed end (file_of 64 ts)) (sym tokens) ∙ ap (placed end) c.in-Ok.ensures.gives in
    sym (parsed_spelled bytes (shader_of c.in-Ok.shader) whole)

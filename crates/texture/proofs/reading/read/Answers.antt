use Rattle.std.proofs.Common.{◌∙◌, sym, refl, subst, ◌<◌, ◌≤◌, length}
use Rattle.std.proofs.lemmas.Bool.{false≢true}
use Rattle.texture.specs.Files.{IsTexture}
use Rattle.texture.proofs.FilesRead.{no_head_no_file, not_whole, too_large, texture_of}
use Rattle.texture.proofs.reading.read.Goals as goal

pub returns-in_default : goal.returns-in_default
returns-in_default c = no_head_no_file c.args.bytes.now c.in_default.ensures

pub returns-then-not-is_whole : goal.returns-then-not-is_whole
returns-then-not-is_whole c =
    not_whole c.args.bytes.now c.in-Some.head c.in-Some.data.now (length c.in-Some.data.now) refl c.is_whole.ensures.range c.in-Some.ensures (λ w. false≢true (sym c.if-not-is_whole.true ∙ c.is_whole.ensures.value.1 w))

pub returns-then-max-gt2048 : goal.returns-then-max-gt2048
returns-then-max-gt2048 c =
    too_large c.args.bytes.now c.in-Some.head c.in-Some.data.now (length c.in-Some.data.now) refl c.is_whole.ensures.range c.in-Some.ensures (c.is_whole.ensures.value.0 c.if-not-is_whole.false)
    (subst (λ n. 2048 < n) c.max.ensures c.if-max-gt2048.true)

pub returns : goal.returns
returns c =
    subst (IsTexture c.args.bytes.now) (sym (c.in_ok-new.ensures ∙ c.in_ok-samples.ensures))
    (texture_of c.args.bytes.now c.in-Some.head c.in-Some.data.now (length c.in-Some.data.now) refl c.is_whole.ensures.range c.in-Some.ensures (c.is_whole.ensures.value.0 c.if-not-is_whole.false)
    (subst (λ n. n ≤ 2048) c.max.ensures c.if-max-gt2048.false))

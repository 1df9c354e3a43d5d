use Rattle.std.proofs.Common.{sym, subst}
use Rattle.std.specs.Prelude.{IfOk}
use Rattle.scene.specs.Scene.{FrameValue}
use Rattle.shader_binding.specs.Sets.{SetValue, Fits}
use Rattle.acceptance.specs.PrimFit.{FitsScene}
use Rattle.displace_shade.specs.Shop.{shop_set}
use Rattle.buckets.specs.Pictures.{HasFrame}
use Rattle.pixel_account.specs.Account.{IsAccount}
use Rattle.render.proofs.Shopping.{shop_is, frame_fits}
use Rattle.why_words.specs.Question.{question_view}
use Rattle.why_run.proofs.Asking.{within, right_of, bottom_of}
use Rattle.why_run.proofs.explained.account_of.Goals as goal

pub explain-requires-clause-frame : goal.explain-requires-clause-frame
explain-requires-clause-frame c = within (question_view c.args.question.now) c.args.accepted.scene.frames c.requires.asked

pub explain-requires-clause-fits : goal.explain-requires-clause-fits
explain-requires-clause-fits c =
    subst (λ (s : SetValue). Fits s c.args.accepted.scene.uses)
    (sym (shop_is c.in_ok-shop.shop c.args.accepted.set c.as_slice.result.now c.args.accepted.textures c.in_ok-shop.ensures.set c.in_ok-shop.ensures.textures c.as_slice.ensures)) c.requires.fits.uses

pub explain-requires-clause-variables : goal.explain-requires-clause-variables
explain-requires-clause-variables c = λ f there.
    frame_fits (shop_set c.in_ok-shop.shop) c.args.accepted.scene c.args.question.now.frame f
    (subst (λ (s : SetValue). FitsScene s c.args.accepted.scene)
    (sym (shop_is c.in_ok-shop.shop c.args.accepted.set c.as_slice.result.now c.args.accepted.textures c.in_ok-shop.ensures.set c.in_ok-shop.ensures.textures c.as_slice.ensures)) c.requires.fits) there

pub explain-requires-clause-column : goal.explain-requires-clause-column
explain-requires-clause-column c = λ f there. right_of (question_view c.args.question.now) c.args.accepted.scene.frames f c.requires.asked there

pub explain-requires-clause-row : goal.explain-requires-clause-row
explain-requires-clause-row c = λ f there. bottom_of (question_view c.args.question.now) c.args.accepted.scene.frames f c.requires.asked there

pub returns : goal.returns
returns c =
    let scene = c.args.accepted.scene in
    let q = c.args.question.now in
    subst (λ (s : SetValue). IfOk c.explain.result (λ p. (f : FrameValue) → HasFrame scene q.frame f → IsAccount (record { scene = scene; set = s }) f q.frame q.x q.y p))
    (shop_is c.in_ok-shop.shop c.args.accepted.set c.as_slice.result.now c.args.accepted.textures c.in_ok-shop.ensures.set c.in_ok-shop.ensures.textures c.as_slice.ensures) c.explain.ensures.account

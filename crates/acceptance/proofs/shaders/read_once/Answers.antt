use Rattle.std.proofs.Common.{refl, arith, rules}
use Rattle.outside.proofs.Asking.{asks_front-none}
use Rattle.acceptance.proofs.Places.{placed_name, once_asked, once_named, unread_name, once_asked_front, once_asked_all, once_more, place_behind_read, on_err}
use Rattle.acceptance.proofs.shaders.read_once.Goals as goal

pub returns-in-Some-clause-place : goal.returns-in-Some-clause-place
returns-in-Some-clause-place g c = placed_name c.args.name.now c.args.names.now c.args.shaders.now.items c.in-Some.place c.requires c.place_of.ensures c.in-Some.is

pub returns-in-Some-clause-library : goal.returns-in-Some-clause-library
returns-in-Some-clause-library g c = record {
  held = refl;
  asked = asks_front-none _ (g.L.Library.asked c.args.library.now);
  asked_all = once_asked c.args.name.now c.args.names.now c.args.shaders.now.items c.in-Some.place (g.L.Library.asked c.args.library.now) c.requires c.place_of.ensures c.in-Some.is;
  later = omega arith;
  read = search rules;
}

pub returns-in-Some-clause-name : goal.returns-in-Some-clause-name
returns-in-Some-clause-name g c = once_named c.args.name.now c.args.names.now c.args.shaders.now.items c.in-Some.place c.requires c.place_of.ensures c.in-Some.is

pub returns-in_err-read_next-in-None-clause-library : goal.returns-in_err-read_next-in-None-clause-library
returns-in_err-read_next-in-None-clause-library g c =
    let l = c.read_next.ensures.library in
    record {
      held = l.held;
      asked = once_asked_front c.args.name.now c.args.names.now c.args.shaders.now.items (g.L.Library.asked c.args.library.now) (g.L.Library.asked c.read_next.new.library)
          c.requires c.place_of.ensures c.in-None.is l.asked;
      asked_all = search rules;
      later = l.later;
      read = search rules;
    }

pub returns-in_err-read_next-in-None-clause-unread : goal.returns-in_err-read_next-in-None-clause-unread
returns-in_err-read_next-in-None-clause-unread g c =
    on_err c.from_residual.result (unread_name c.args.name.now c.args.names.now c.args.shaders.now.items c.requires c.place_of.ensures c.in-None.is)

pub returns-in_ok-read_next-in-None-clause-place : goal.returns-in_ok-read_next-in-None-clause-place
returns-in_ok-read_next-in-None-clause-place g c =
    place_behind_read c.args.name.now c.args.names.now _ c.args.shaders.now.items c.len-place.result c.requires c.len-place.ensures c.in_ok-read_next-in-None.ensures.name

pub returns-in_ok-read_next-in-None-clause-library : goal.returns-in_ok-read_next-in-None-clause-library
returns-in_ok-read_next-in-None-clause-library g c =
    let l = c.in_ok-read_next-in-None.ensures.library in
    record {
      held = l.held;
      asked = once_asked_front c.args.name.now c.args.names.now c.args.shaders.now.items (g.L.Library.asked c.args.library.now) (g.L.Library.asked c.read_next.new.library)
          c.requires c.place_of.ensures c.in-None.is l.asked;
      asked_all = once_asked_all c.args.name.now c.args.names.now c.args.shaders.now.items (g.L.Library.asked c.args.library.now) (g.L.Library.asked c.read_next.new.library)
          c.requires c.place_of.ensures c.in-None.is l.asked_all;
      later = l.later;
      read = search rules;
    }

pub returns-in_ok-read_next-in-None-clause-name : goal.returns-in_ok-read_next-in-None-clause-name
returns-in_ok-read_next-in-None-clause-name g c =
    once_more c.args.name.now c.args.names.now c.args.shaders.now.items _ c.requires c.place_of.ensures c.in-None.is c.in_ok-read_next-in-None.ensures.name

use Rattle.texture.proofs.Heads.{no_width, no_height, no_most, no_white, head_made}
use Rattle.texture.proofs.header.header_in.Goals as goal

pub returns-in_err-width : goal.returns-in_err-width
returns-in_err-width c =
    rw c.from_residual-in_err-width.ensures (no_width c.args.bytes.now c.in_ok-rest.rest.now c.in_ok-rest.ensures c.in_err-width.ensures)

pub returns-in_err-height : goal.returns-in_err-height
returns-in_err-height c =
    let w = c.in_ok-width.ensures in
    rw c.from_residual-in_err-height.ensures (no_height c.args.bytes.now c.in_ok-rest.rest.now c.in_ok-width.rest.now w.number c.in_ok-rest.ensures w.text c.in_err-height.ensures)

pub returns-in_err-most : goal.returns-in_err-most
returns-in_err-most c =
    let w = c.in_ok-width.ensures in
    let h = c.in_ok-height.ensures in
    rw c.from_residual-in_err-most.ensures (no_most c.args.bytes.now c.in_ok-rest.rest.now c.in_ok-width.rest.now c.in_ok-height.rest.now w.number h.number c.in_ok-rest.ensures w.text h.text c.in_err-most.ensures)

pub returns-in_err-rest-2 : goal.returns-in_err-rest-2
returns-in_err-rest-2 c =
    let w = c.in_ok-width.ensures in
    let h = c.in_ok-height.ensures in
    let m = c.in_ok-most.ensures in
    rw c.from_residual-in_err-rest-2.ensures
    (no_white c.args.bytes.now c.in_ok-rest.rest.now c.in_ok-width.rest.now c.in_ok-height.rest.now c.in_ok-most.rest.now w.number h.number m.number c.in_ok-rest.ensures w.text h.text m.text c.in_err-rest-2.ensures)

pub returns : goal.returns
returns c =
    let w = c.in_ok-width.ensures in
    let h = c.in_ok-height.ensures in
    let m = c.in_ok-most.ensures in
    record {
      width = w.number;
      height = h.number;
      most = m.number;
      text = head_made c.args.bytes.now c.in_ok-rest.rest.now c.in_ok-width.rest.now c.in_ok-height.rest.now c.in_ok-most.rest.now c.in_ok-rest-2.rest.now w.number h.number m.number c.in_ok-rest.ensures w.text h.text m.text c.in_ok-rest-2.ensures;
      width_value = w.value;
      height_value = h.value;
      most_value = m.value;
    }

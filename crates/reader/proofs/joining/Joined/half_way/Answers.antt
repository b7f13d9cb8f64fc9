use Rattle.std.proofs.Common.{arith}
use Rattle.algebra.specs.Polynomial.{coefficients}
use Rattle.reader.proofs.Searching.{halved}
use Rattle.reader.proofs.joining.Joined.half_way.Goals as goal

pub descend-requires : goal.descend-requires
descend-requires g c =
    let j = c.args.self.now in
    let state = j.state in
    record {
      D = j.degree;
      M = coefficients j.product;
      Y = coefficients j.value;
      fits = state.fits;
      holds =
          c.start-euclid.ensures.extended g.F.Field.arithmetic g.met.F.Field.lawful state.product_codes state.value_codes j.degree state.has_degree
          state.below;
    }

pub returns : goal.returns
returns g c =
    let j = c.args.self.now in
    let state = j.state in
    let most = c.div_ceil.result in
    let first = c.descend.ensures.first in
    let begun =
    c.start-euclid.ensures.extended g.F.Field.arithmetic g.met.F.Field.lawful state.product_codes state.value_codes j.degree state.has_degree
    state.below in
    halved g.F.Field.arithmetic j.degree c.args.message_length (coefficients j.product) (coefficients j.value) c.start-euclid.result
    c.descend.new.self most first.0 c.requires state.has_degree c.start-euclid.ensures.previous (omega arith) (omega arith) first.1
    c.descend.ensures.few (c.descend.ensures.extended j.degree (coefficients j.product) (coefficients j.value) begun)

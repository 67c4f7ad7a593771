use Rattle.std.proofs.Common.{rules, ◌≡◌, ◌++◌, Some, None}
use Rattle.std.proofs.lemmas.Bool.Decides.{Decides-eqb}
use Rattle.std.proofs.lemmas.Slice.Eq.{strip_prefix_is}
use Rattle.fare_request.proofs.Hosts.{is_rest}
use Rattle.fare_request.proofs.host.is_at.Goals as goal

pub returns-in-Some : goal.returns-in-Some
returns-in-Some c =
    let is : c.args.host.now ≡ c.args.name.now ++ c.in-Some.rest.now = strip_prefix_is Decides-eqb c.args.host.now c.args.name.now (Some c.in-Some.rest) c.in-Some.ensures.cases in (
      λ t. (c.in-Some.rest.now, is, c.is_port_or_none.ensures.0 t),
      λ at. c.is_port_or_none.ensures.1 (is_rest c.args.name.now c.args.host.now c.in-Some.rest.now is at),
    )

pub returns-in-None : goal.returns-in-None
returns-in-None c = (
  λ t. absurd (search (rules, t)),
  λ at. absurd (strip_prefix_is Decides-eqb c.args.host.now c.args.name.now None c.in-None.ensures.cases at.0 at.1),
)

use Rattle.std.proofs.Common.{subst}
use Rattle.ec_args.specs.Requests.{IsNoticeFor}
use Rattle.ec_args.proofs.request.notice_of.Goals as goal

pub returns : goal.returns
returns c = record {
  made = c.to_string.result;
  says = subst (λ kind. IsNoticeFor kind c.to_string.result c.notice_for.result) c.kind.ensures c.notice_for.ensures;
}

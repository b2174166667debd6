use Rattle.std.proofs.Common.{◌∙◌, refl, subst, sym}
use Rattle.edge_core.specs.declared.store.Got.TheVariants as got
use Rattle.bucket_store.specs.Objects.{IsTold, body_in}
use Rattle.bucket_store.proofs.objects.got_of.Goals as goal

pub returns-in-Take-clause-got : goal.returns-in-Take-clause-got
returns-in-Take-clause-got c =
    let body = body_in c.args.answer.now.response in (
      c.get_reply-reply.result,
      c.get_reply-reply.ensures,
      subst (λ x. IsTold x body (got.Bytes c.take_from.result) c.take_from.new.out) (sym c.in-Take.is ∙ c.get_next.ensures) (rw c.body_in.ensures at c.take_from.ensures.front),
    )

pub returns-in-Empty-clause-got : goal.returns-in-Empty-clause-got
returns-in-Empty-clause-got c = (
  c.get_reply-reply.result,
  c.get_reply-reply.ensures,
  subst (λ x. IsTold x (body_in c.args.answer.now.response) (got.Bytes 0) c.args.out.now) (sym c.in-Empty.is ∙ c.get_next.ensures) refl,
)

pub returns-in-Absent-clause-got : goal.returns-in-Absent-clause-got
returns-in-Absent-clause-got c = (
  c.get_reply-reply.result,
  c.get_reply-reply.ensures,
  subst (λ x. IsTold x (body_in c.args.answer.now.response) got.Absent c.args.out.now) (sym c.in-Absent.is ∙ c.get_next.ensures) tt,
)

pub returns-in-Again-clause-got : goal.returns-in-Again-clause-got
returns-in-Again-clause-got c = (
  c.get_reply-reply.result,
  c.get_reply-reply.ensures,
  subst (λ x. IsTold x (body_in c.args.answer.now.response) got.Failed c.args.out.now) (sym c.in-Again.is ∙ c.get_next.ensures) tt,
)

pub returns-in-Failed-clause-got : goal.returns-in-Failed-clause-got
returns-in-Failed-clause-got c = (
  c.get_reply-reply.result,
  c.get_reply-reply.ensures,
  subst (λ x. IsTold x (body_in c.args.answer.now.response) got.Failed c.args.out.now) (sym c.in-Failed.is ∙ c.get_next.ensures) tt,
)

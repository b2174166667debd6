use Rattle.std.proofs.Common.{◌∙◌, ◌++◌, ◌∷◌, [], List, ap, refl, arith}
use Rattle.share_book.specs.declared.entry.Entry.{Entry}
use Rattle.share_book.specs.declared.entry.Act.TheVariants.{OwnEdit}
use Rattle.share_book.specs.BookView.{BookView}
use Rattle.share_book.specs.History.{entry}
use Rattle.share_book.proofs.Rests.{own_rests}
use Rattle.hub_catalog.proofs.Loads.{loaded_then}
use Rattle.hub_catalog.proofs.catalog_turns.own_in.Goals as goal

pub edit-requires-clause-room : goal.edit-requires-clause-room
edit-requires-clause-room c = let r = c.load_in.ensures.room in omega arith

pub edit-requires-clause-follows : goal.edit-requires-clause-follows
edit-requires-clause-follows c = c.load_in.ensures.follows (OwnEdit c.args.new.edit) refl

pub returns-clause-rests : goal.returns-clause-rests
returns-clause-rests c = own_rests _ _ c.args.caller c.args.new.edit c.in-Ok.ensures.accepted (c.edit.ensures.others c.load_in.ensures.others)

pub returns-clause-added : goal.returns-clause-added
returns-clause-added c =
    ap (λ (b : BookView). b.past.history) c.in-Ok.ensures.accepted ∙ (ap (λ (h : List Entry). h ++ entry c.args.caller 0 (OwnEdit c.args.new.edit) ∷ []) c.load_in.ensures.history ∙ loaded_then c.args.book.now.past.history c.args.caller c.args.new.load (OwnEdit c.args.new.edit))

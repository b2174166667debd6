-- What is found in the book is what the events have.
use Rattle.std.proofs.Common.{◌≡◌, ℕ, List, [], ◌∷◌, ◌++◌, Option, Some, None, option_map, refl, ap, ◌∙◌}
use Rattle.std.specs.FinMap as maps
use Rattle.share_catalog.specs.Catalogue.{tables_bound}
use Rattle.share_catalog.specs.TableNames.{parts_of, texts_cmp}
use Rattle.share_catalog.specs.Views.{CatalogView, Spot, Who, keyed, shared, view_among}
use Rattle.share_catalog.specs.declared.edit.Edit.{Edit}
use Rattle.share_catalog.specs.declared.table_name.TableName.{TableName}
use Rattle.share_book.specs.History as history
use Rattle.share_book.specs.Looks.{look_of, who_of}
use Rattle.share_book.specs.Views.{Log, View, held, held_view, log_at, logs_of, view_with}
use Rattle.share_book.specs.Views as views
use Rattle.share_book.specs.declared.entry.Entry.{Entry}
use Rattle.share_book.specs.declared.look.Ask.{Ask}
use Rattle.share_request.specs.declared.asked.Request.{Request}
use Rattle.share_world.specs.Standing.{Stands, seen_at}
use Rattle.share_world.specs.Worlds.{held_of, log_of, looked}
use Rattle.share_world.specs.declared.event.Event.{Event}
use Rattle.share_world.specs.declared.event.Event.TheVariants as event
use Rattle.share_world.proofs.Bound.{seen_bound}
use Rattle.share_world.proofs.CommitSteps.{passed_over}

log_held : (logs others : List ℕ → Log) (o : Option Spot) → ((s : Spot) → o ≡ Some s → logs s.location ≡ others s.location) → option_map (held logs) o ≡ option_map (held others) o
log_held logs others None same = refl
log_held logs others (Some s) same = ap Some (same s refl)

module _ (h : List Entry) (events : List Event) (s : Stands h events) where
  log_seen : (r : List ℕ) (t : TableName) → views.log_of (history.edits h) (held (log_at h)) r t ≡ views.log_of (history.edits h) (held (log_of events)) r t
  log_seen r t = log_held (log_at h) (log_of events) (shared (history.edits h) r t) (λ spot is. s.logs spot.location (s.idle.bound spot.location ∙ seen_bound (history.edits h) r t spot is))

  logs_seen : (r : List ℕ) → logs_of (history.edits h) (held (log_at h)) r ≡ logs_of (history.edits h) (held (log_of events)) r
  logs_seen r = λ i. maps.from_entries {R = texts_cmp} (keyed parts_of (λ t. log_seen r t i) (tables_bound (history.edits h)))

  with_seen : (o : Option CatalogView) → option_map (view_with (history.edits h) (held (log_at h))) o ≡ option_map (view_with (history.edits h) (held (log_of events))) o
  with_seen None = refl
  with_seen (Some c) = λ i. Some (record { catalog = c; logs = logs_seen c.recipient i })

  held_stands : (who : Who) → held_view h who ≡ held_of events who
  held_stands who = with_seen (view_among (history.edits h) who) ∙ ap (λ (es : List Edit). option_map (view_with es (held (log_of events))) (view_among es who)) s.edits

  -- what is found in the book is what the events have
  pub seen_stands : (ask : Option Ask) → seen_at h ask ≡ looked events ask
  seen_stands None = refl
  seen_stands (Some ask) = ap (λ (v : Option View). look_of v ask.want) (held_stands (who_of ask.who))

-- a request changes nothing
pub asked_stands : (h : List Entry) (events : List Event) (request : Request) (now : ℕ) → Stands h events → Stands h (events ++ event.Ask request now ∷ [])
asked_stands h events request now s = passed_over h events (event.Ask request now) s refl (λ l has. refl)

-- Offers and edits that nothing is in the way of: a session that is asked for them makes them.
use Rattle.std.specs.Prelude.{◌≡◌, ◌⊎◌, ℕ, ◌^◌, ◌≤◌, ◌<◌, true, List, Some, length}
use Rattle.edge_core.specs.Objects.{Objects}
use Rattle.commit_check.specs.declared.offer.Offer.{Offer}
use Rattle.log_actions.specs.declared.actions.Action.{Action}
use Rattle.log_store.specs.Backed.{HasCommit}
use Rattle.share_book.specs.History.{edits, table_on}
use Rattle.share_book.specs.Legal.{There, log_at}
use Rattle.share_book.specs.TableView.{TableLog}
use Rattle.share_book.specs.declared.entry.Entry.{Entry}
use Rattle.share_catalog.specs.declared.edit.Edit.{Edit}
use Rattle.hub_catalog.specs.Records.{HasRecord}
use Rattle.http_message.specs.Sessions.{Request as Message}
use Rattle.share_hub.specs.Backing.{IsBegunOn}
use Rattle.share_hub.specs.CatalogLaws.{IsClearEdit}
use Rattle.share_hub.specs.TableLaws.{IsClear}
use Rattle.share_request.specs.Requests.{request_in}
use Rattle.share_request.specs.declared.asked.Request.{Request}
use Rattle.share_serve.specs.Callers.{by_request}
use Rattle.share_serve.specs.Callers as by
use Rattle.share_serve.specs.Laws.{request_of}
use Rattle.share_serve.specs.Providers.{record_text, version_text}
use Rattle.share_serve.specs.Responses.{json_response}
use Rattle.share_serve.specs.Sessions.{Wants}
use Rattle.share_serve.specs.Turns.{Hold, Responds, Shelf, Side, Turn}
use Rattle.share_serve.specs.WholeSessions.{Stays}
use Rattle.share_serve.specs.declared.server.Server.{Server}

-- The store has these objects, nobody else writes it, and it didn't fail meanwhile.
pub record IsSound (objects : Objects) (old new : Shelf) : Type 0 where
  pub told : old.objects ≡ Some objects
  pub alone : old.alone ≡ true
  pub stays : Stays old.faults new.faults

-- ---- offers

-- The request is a provider's offer to the loaded log of this number. Nothing is in its way after the log that its Begin finds, which has fewer
-- than 2^63 versions.
pub record IsOffered (server : Server) (asked : Request) (moment : ℕ) (o : Offer) (j : ℕ) (old new : Hold) : Type 0 where
  pub provider : by_request server asked ≡ by.commit o
  pub short : length o.location ≤ 256
  pub loaded : log_at new.pass.seen o.location ≡ Some j
  pub objects : Objects
  pub sound : IsSound objects old.shelf new.shelf
  pub clear : (from : List Entry) → IsBegunOn j old.pass new.pass from → There (table_on j from) (λ t. (length t.commits < 2 ^ 63) × ((c : List Action) × IsClear moment o objects t c))

-- this holds of the log that its Begin found
abbrev pub OfBegun : ℕ → Hold → Hold → (TableLog → Type 0) → Type 0
OfBegun j old new Q = (from : List Entry) × IsBegunOn j old.pass new.pass from × There (table_on j from) Q

-- Such an offer is answered with 200 and the log's next version. Where memory was wanting for the response, the store has what it had, or a commit
-- as that version.
pub record OffersAreTaken : Type 0 where
  pub answered : (server : Server) (t : Turn) (text : List ℕ) (o : Offer) (j : ℕ) (old new : Side) → Responds server t text old new → IsOffered server (request_of t) t.moment o j old.hold new.hold
      → OfBegun j old.hold new.hold (λ log. t.response ≡ json_response (version_text (length log.commits)))
  pub wanting : (server : Server) (m : Message) (moment : ℕ) (o : Offer) (j : ℕ) (old new : Side) → Wants server m moment old new → IsOffered server (request_in m.head m.body) moment o j old.hold new.hold
      → (new.hold.shelf.objects ≡ old.hold.shelf.objects) ⊎ OfBegun j old.hold new.hold (λ log. (c : List Action) × HasCommit o.location new.hold.shelf.objects (length log.commits) c)

-- ---- edits

-- The request is the administrator's edit. Nothing is in its way after the edits that its Begin finds, which are fewer than 2^63.
pub record IsOrdered (server : Server) (asked : Request) (e : Edit) (old new : Hold) : Type 0 where
  pub administrator : by_request server asked ≡ by.edit e
  pub objects : Objects
  pub sound : IsSound objects old.shelf new.shelf
  pub clear : (from : List Entry) → IsBegunOn 0 old.pass new.pass from → (length (edits from) < 2 ^ 63) × IsClearEdit e objects (edits from)

-- this holds of the edits that its Begin found
abbrev pub OfEdits : Hold → Hold → (List Edit → Type 0) → Type 0
OfEdits old new Q = (from : List Entry) × IsBegunOn 0 old.pass new.pass from × Q (edits from)

-- Such an edit is answered with 200 and the next record's number. Where memory was wanting for the response, the store has what it had, or the
-- edit's record under that number.
pub record EditsAreTaken : Type 0 where
  pub answered : (server : Server) (t : Turn) (text : List ℕ) (e : Edit) (old new : Side) → Responds server t text old new → IsOrdered server (request_of t) e old.hold new.hold
      → OfEdits old.hold new.hold (λ es. t.response ≡ json_response (record_text (length es)))
  pub wanting : (server : Server) (m : Message) (moment : ℕ) (e : Edit) (old new : Side) → Wants server m moment old new → IsOrdered server (request_in m.head m.body) e old.hold new.hold
      → (new.hold.shelf.objects ≡ old.hold.shelf.objects) ⊎ OfEdits old.hold new.hold (λ es. HasRecord new.hold.shelf.objects (length es) e)

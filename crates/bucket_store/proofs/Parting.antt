-- What calls answer, by what came back.
use Rattle.std.proofs.Common.{◌≡◌, ℕ, inr, List, length, Option, sym, subst}
use Rattle.edge_core.specs.declared.store.Got.{Got}
use Rattle.edge_core.specs.declared.store.Measured.{Measured}
use Rattle.edge_core.specs.declared.store.Put.{Put}
use Rattle.signed_call.specs.declared.call.Call.{Call}
use Rattle.bucket_store.specs.declared.ends.ObjectEnd.{ObjectEnd}
use Rattle.bucket_store.specs.declared.exchange.Response.{Response}
use Rattle.bucket_store.specs.declared.place.BucketPlace.{BucketPlace}
use Rattle.bucket_store.specs.Looks.{size_next}
use Rattle.bucket_store.specs.Objects.{Follows, GetsPart, IsEnd, IsGet, IsGot, IsHead, IsPut, LooksAt, PutsAt, Sizes, key_of, last_of, length_told, look_of, measured_by}
use Rattle.bucket_store.specs.Puts.{looked, put_next, put_reply}
use Rattle.bucket_store.specs.Sides.{Side}
use Rattle.bucket_store.specs.Tries.{Asked, status_of}

pub part_got :
    (place : BucketPlace) (name : List ℕ) (from last room : ℕ) (asked : Call) (made : ℕ) (response : Option Response) (answer : Got) (end : Option ObjectEnd) (out : List ℕ) (s t : Side)
    → IsGet (key_of place name) from last asked → last ≡ last_of from room → length out ≡ room → IsGot made from last response answer out → IsEnd name response end
    → Asked place asked made response s t → GetsPart place name from answer end out s t
part_got place name from last room asked made response answer end out s t is spelt same got told came =
    let same_last : last ≡ last_of from (length out) = subst (λ n. last ≡ last_of from n) (sym same) spelt in
    inr (
      asked,
      subst (λ x. IsGet (key_of place name) from x asked) same_last is,
      (made, response, came, subst (λ x. IsGot made from x response answer out) same_last got, told),
    )

pub size_told :
    (place : BucketPlace) (name : List ℕ) (asked : Call) (made : ℕ) (response : Option Response) (answer : Measured) (s t : Side)
    → IsHead (key_of place name) asked → answer ≡ measured_by (size_next made (status_of response) (length_told response))
    → Asked place asked made response s t → Sizes place name answer s t
size_told place name asked made response answer s t is told came = inr (asked, is, (made, response, came, told))

pub look_told :
    (place : BucketPlace) (key mark : List ℕ) (asked : Call) (made : ℕ) (response : Option Response) (answer : Put) (s t : Side)
    → IsHead key asked → answer ≡ looked (look_of mark response) → Asked place asked made response s t → LooksAt place key mark answer s t
look_told place key mark asked made response answer s t is told came = (asked, is, (made, response, came, told))

pub put_told :
    (place : BucketPlace) (mark name bytes : List ℕ) (asked : Call) (made : ℕ) (response : Option Response) (answer : Put) (s t u : Side)
    → IsPut (key_of place name) mark bytes asked → Asked place asked made response s t
    → Follows place (key_of place name) mark (put_next made (put_reply (status_of response))) answer t u
    → PutsAt place mark name bytes answer s u
put_told place mark name bytes asked made response answer s t u is came follows = inr (asked, is, (made, response, t, came, follows))

-- Updates of the node that details ask.
use Rattle.std.proofs.Common.{◌≡◌, ◌∙◌, ℕ, List, Some, refl, ap}
use Rattle.std.specs.Option.{unwrap_or}
use Rattle.ua_binary.specs.declared.values.NodeId.{NodeId}
use Rattle.ua_variant.specs.declared.value.ValueType.{ValueType}
use Rattle.ua_services.specs.Updates.{Details, UpdateData, DeleteRawModified, DeleteAtTime, Other}
use Rattle.records.specs.Contents.{Content}
use Rattle.archive.specs.Store.{StepResult}
use Rattle.hist_update.specs.declared.request.Request.{Request}
use Rattle.hist_update.specs.Updates.{update_data, delete_raw, delete_at}
use Rattle.historian.specs.Updating.{node_asked, update_of}

-- the request for that node
pub update-for : (own : ℕ) (request : NodeId → Request) (made : Request) (type : ValueType)
    (details : Details) (node : NodeId) (R : Content) (marks : List StepResult)
    → node_asked details ≡ Some node → request node ≡ made
    → update_of own request type details R marks ≡ update_of own (λ _. made) type details R marks
update-for own request made type (UpdateData d) node R marks is same =
    ap (λ q. update_data own q type d.1.0 d.1.1 R marks)
    (ap request (ap (λ o. unwrap_or o node) is) ∙ same)
update-for own request made type (DeleteRawModified d) node R marks is same =
    ap (λ q. delete_raw own q d.1.0 d.1.1.0 d.1.1.1 R marks)
    (ap request (ap (λ o. unwrap_or o node) is) ∙ same)
update-for own request made type (DeleteAtTime d) node R marks is same =
    ap (λ q. delete_at own q d.1 R marks) (ap request (ap (λ o. unwrap_or o node) is) ∙ same)
update-for own request made type Other node R marks is same = refl

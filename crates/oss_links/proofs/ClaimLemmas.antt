-- The laws as they are claimed.
use Rattle.std.proofs.Common.{sym, ◌∙◌}
use Rattle.oss_links.specs.Claims.{AlikeHold, ChildSearchBegins, ChildSearchEnds, ChildSearchGoesBack, CreatorsAreHeld, CreatorsHold, EmptyListsHold, FlagsTell, GiftsHold, GiversAreHeld, LastChildTells, MainIsMet, MetByFlags, NewTablesHold, NoAccessNoChild, OpeningsAsideHold, OpeningsHold, SearchBegins, SearchEnds, SearchGoesBack, SearchGoesUp, TablesGive, TablesGrow, TablesLend, TablesShow, TablesStay, WaysAreTasks, WaysHinder}
use Rattle.oss_links.specs.Held.{IsAccessOf}
use Rattle.oss_links.proofs.AlikeLemmas.{empty_holds, held_alike, held_given, held_renamed, held_told}
use Rattle.oss_links.proofs.GrowLemmas.{held_aside}
use Rattle.oss_links.proofs.ConditionLemmas.{creator_held, creator_lends, giver_held, no_child}
use Rattle.oss_links.proofs.OpeningLemmas as opening
use Rattle.oss_links.proofs.CellLemmas as cells
use Rattle.oss_links.proofs.ReadLemmas as reading
use Rattle.oss_links.proofs.MetLemmas as met
use Rattle.oss_links.proofs.ChildLemmas as children
use Rattle.oss_links.proofs.SearchLemmas as search
use Rattle.oss_links.proofs.WayLemmas as ways

pub empty_lists_hold : EmptyListsHold
empty_lists_hold given c w task_of empty none = empty_holds given c w (IsAccessOf task_of) empty (λ t v r. let h = sym r ∙ none v in cc)

pub openings_hold : OpeningsHold
openings_hold = opening.openings_hold

pub openings_aside_hold : OpeningsAsideHold
openings_aside_hold opens given c w task_of o are none fresh = held_aside opens given c w (IsAccessOf task_of) o are none fresh

pub gifts_hold : GiftsHold
gifts_hold opens given later c w n task_of t g are gift access tells = held_given opens given later c w n (IsAccessOf task_of) t g are gift access tells

pub alike_hold : AlikeHold
alike_hold opens given later c w n task_of other are same told names =
    held_renamed opens later c n (IsAccessOf task_of) (IsAccessOf other) (λ t v r. names v ∙ r) (λ t v r. sym (names v) ∙ r)
    (held_told opens given later c n (IsAccessOf task_of) told (held_alike opens given c w n (IsAccessOf task_of) same are))

pub creators_hold : CreatorsHold
creators_hold s c w task_of o p ord are can named is = creator_lends s c w (IsAccessOf task_of) are ord o p can named is

pub creators_are_held : CreatorsAreHeld
creators_are_held s c w task_of o are can named = creator_held s c w (IsAccessOf task_of) are o can named

pub givers_are_held : GiversAreHeld
givers_are_held s c w task_of t range are can lo hi = giver_held s c w (IsAccessOf task_of) are t range can lo hi

pub flags_tell : FlagsTell
flags_tell opens given c w task_of t v marks ord are r is = reading.flags_tell opens given c w (IsAccessOf task_of) ord are t v marks r is

pub met_by_flags : MetByFlags
met_by_flags = met.met_by_flags

pub main_is_met : MainIsMet
main_is_met = met.main_is_met

pub last_child_tells : LastChildTells
last_child_tells opens given c w F task_of t p ord are rest is = children.last_child_tells opens given c w (IsAccessOf task_of) ord are t p is F rest

pub no_access_no_child : NoAccessNoChild
no_access_no_child opens given c w task_of t covered are main none = no_child opens given c w (IsAccessOf task_of) t covered are main none

pub search_begins : SearchBegins
search_begins = search.search_begins

pub search_goes_back : SearchGoesBack
search_goes_back w F m v x u rest is e h = search.search_goes_back w F rest m v x u is e h

pub search_goes_up : SearchGoesUp
search_goes_up w F m v x p rest is e = search.search_goes_up w F rest m v x p is e

pub search_ends : SearchEnds
search_ends = search.search_ends

pub ways_hinder : WaysHinder
ways_hinder opens given c w F task_of m t s v u ord are rest r q asks is = ways.way_hinders opens given c w (IsAccessOf task_of) ord are F rest m t s v u r q asks is

pub ways_are_tasks : WaysAreTasks
ways_are_tasks opens given c w F task_of m t v u ord are r is = ways.way_is_task opens given c w (IsAccessOf task_of) ord are F m t v u r is

pub child_search_begins : ChildSearchBegins
child_search_begins w F p rest h = search.child_search_begins w F rest p h

pub child_search_goes_back : ChildSearchGoesBack
child_search_goes_back w F p x rest is over = search.child_search_goes_back w F rest p x is over

pub child_search_ends : ChildSearchEnds
child_search_ends opens given c w F task_of t s p x lo hi ord are rest is r at h from before =
    ways.child_search_ends opens given c w (IsAccessOf task_of) ord are F rest t s p x lo hi is r at h from before

pub new_tables_hold : NewTablesHold
new_tables_hold = cells.bare_cell

pub tables_lend : TablesLend
tables_lend s c hangs numbers o parent ord is told can named number = cells.cell_lends s c hangs numbers o parent ord is can named number told

pub tables_grow : TablesGrow
tables_grow s c hangs numbers o parent above ord is can named number at hung = cells.cell_grows s c hangs numbers o parent ord is can named number above at hung

pub tables_stay : TablesStay
tables_stay opens c hangs numbers o is none fresh = (cells.cell_aside opens c hangs numbers is o none fresh, cells.given_aside opens c hangs numbers is o)

pub tables_show : TablesShow
tables_show = cells.cell_shows

pub tables_give : TablesGive
tables_give opens c hangs later numbers t g is gift long access = (cells.cell_given opens c hangs later numbers is t g gift long access, cells.given_later opens c hangs later numbers is t g gift long access)

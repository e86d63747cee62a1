-- What is sent for a reply, and the words of row 23.
use Rattle.std.specs.Prelude.{ℕ, List, [], ◌∷◌, ◌++◌, Option, Some, None, codes}
use Rattle.page_ids.specs.Ids.{Id, page_text}
use Rattle.frame_records.specs.declared.frame.Frame.{Frame}
use Rattle.frame_records.specs.Bases.{BaseView, frame_at}
use Rattle.terminal_codes.specs.Bodies.{lead_codes}
use Rattle.session_machine.specs.declared.reply.Reply.{Reply}
use Rattle.session_machine.specs.declared.reply.Reply.TheVariants.{Shown, Again, NotOffered, Missing, Closed, Gone}
use Rattle.frame_screens.specs.Screens.{screen_codes}
use Rattle.served_bytes.specs.Sent.{Sending, Paints, Says}

-- The words of row 23, from column 0 on.

-- after a reply; none after a frame
abbrev pub reply_words : Reply → List ℕ
reply_words (Shown id price) = []
reply_words (Again id) = []
reply_words NotOffered = codes "KEY NOT IN USE"
reply_words (Missing id) = codes "NO SUCH PAGE"
reply_words (Closed id) = codes "CLOSED USER GROUP ONLY"
reply_words (Gone page) = codes "LEAVING FOR PAGE " ++ page_text page

-- after a page that was keyed directly, as `*1234#`
abbrev pub keyed_page_words : List ℕ
keyed_page_words = codes "PAGES CANNOT BE KEYED HERE"

-- after `*90#`
abbrev pub end_words : List ℕ
end_words = codes "GOODBYE"

-- Replies.

-- a frame's bytes: its lead and its body; none if the base lacks it
abbrev pub frame_bytes : Option Frame → List ℕ
frame_bytes None = []
frame_bytes (Some f) = lead_codes f.lead ++ f.body

-- a frame, and row 0 of its own screen as `show` paints it
abbrev pub painting_of : BaseView → Id → Sending
painting_of base id = Paints (frame_bytes (frame_at base id)) (screen_codes base (id ∷ []))

-- what a reply sends: its frame, or its words
abbrev pub sending_of : BaseView → Reply → Sending
sending_of base (Shown id price) = painting_of base id
sending_of base (Again id) = painting_of base id
sending_of base NotOffered = Says (reply_words NotOffered)
sending_of base (Missing id) = Says (reply_words (Missing id))
sending_of base (Closed id) = Says (reply_words (Closed id))
sending_of base (Gone page) = Says (reply_words (Gone page))

-- those of replies, in order
abbrev pub sendings_of : BaseView → List Reply → List Sending
sendings_of base [] = []
sendings_of base (reply ∷ replies) = sending_of base reply ∷ sendings_of base replies
